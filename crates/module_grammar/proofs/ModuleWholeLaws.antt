-- Whole declarations stand for their tokens.
use Rattle.std.proofs.Common.{◌≡◌, ◌∙◌, sym, ap, ℕ}
use Rattle.std.proofs.Common.{List, [], ◌∷◌, ◌++◌, drop, codes, Option}
use Rattle.std.proofs.lemmas.List.{append_assoc}
use Rattle.mdl_lexer.specs.Kinds.{mark_word, name_word}
use Rattle.mdl_lexer.specs.declared.token.Token.{Token}
use Rattle.mdl_syntax.specs.declared.types.Freq.{Freq}
use Rattle.mdl_syntax.specs.Trees.{Tree}
use Rattle.mdl_syntax.specs.Words.{type_words, frequency_words}
use Rattle.mdl_syntax.specs.Placed.{place_of, behind, placed_ident, placed_type}
use Rattle.mdl_syntax.specs.Modules.{Annotation, Parameter, EnumValue, Declaration}
use Rattle.mdl_syntax.specs.Modules.{structure, enumeration, annotation, function}
use Rattle.mdl_syntax.specs.WrittenModules.{write_annotations, write_parameters}
use Rattle.mdl_syntax.specs.WrittenModules.{write_field, write_enum_value, export_words}
use Rattle.mdl_syntax.specs.WrittenModules.{write_declaration}
use Rattle.mdl_syntax.specs.PlacedModules.{placed_each, placed_annotations, placed_parameter}
use Rattle.mdl_syntax.specs.PlacedModules.{placed_parameters, placed_enum_value, placed_value}
use Rattle.mdl_syntax.specs.PlacedModules.{placed_declaration}
use Rattle.expression_grammar.specs.Readings.{kinds}
use Rattle.expression_grammar.specs.inside.Machine.{from_to}
use Rattle.expression_grammar.specs.inside.Stands.{TypeStands}
use Rattle.module_grammar.specs.inside.ModuleParts.{Part, Each, First}
use Rattle.module_grammar.specs.inside.ModuleStates.{Named, Fronted}
use Rattle.module_grammar.specs.inside.ModuleHolds.{Word, Annotated, ValueStands, ParametersStand}
use Rattle.module_grammar.specs.inside.ModuleHolds.{ValuesStand}
use Rattle.expression_grammar.proofs.KindLaws.{kinds_append, behind_front}
use Rattle.module_grammar.proofs.ModuleListLaws.{first_append, whole_place, each_kept, several_kept}
use Rattle.module_grammar.proofs.ModulePartLaws.{type_kept, annotated_kept, parameters_kept}
use Rattle.module_grammar.proofs.ModulePartLaws.{word_writes, word_places, word_drop, value_writes}
use Rattle.module_grammar.proofs.ModulePartLaws.{value_kept}

abbrev pub Declares : Declaration → List Token → Type 0
Declares one tokens = Part write_declaration placed_declaration one tokens

pub kin_place : (at : ℕ) (front mid : List Token) (last : Token) (tokens : List Token) →
    First at front → (front ++ mid) ++ last ∷ [] ≡ tokens → place_of tokens ≡ from_to at last.end
kin_place at front mid last tokens first are =
    whole_place at (front ++ mid) last tokens (first_append at front mid first) are

-- `struct`, its fields, and `;`
pub structure_whole : (named : Named) (annotations : Option (List Annotation))
    (fields : List Parameter) (exports ns a fs : List Token) (begin brace close last : Token) →
    export_words named.exported ≡ kinds exports → begin.kind ≡ name_word (codes "struct") →
    Word named.name ns → First named.at (exports ++ begin ∷ []) → Annotated annotations a →
    brace.kind ≡ mark_word (codes "{") → Each write_field placed_parameter fields fs →
    close.kind ≡ mark_word (codes "}") → last.kind ≡ mark_word (codes ";") →
    Declares (structure named.exported named.name annotations fields (from_to named.at last.end))
    (exports ++ begin ∷ (ns ++ (a ++ brace ∷ (fs ++ close ∷ last ∷ []))))
structure_whole named annotations fields exports ns a fs begin brace close last exporting is name
    first annotated opens stand closes ends = record {
      writes = (λ i. exporting i ++ (sym is i ∷ (word_writes named.name ns name i
          ++ (annotated.writes i ++ (sym opens i ∷ (stand.writes i
          ++ sym closes i ∷ sym ends i ∷ []))))))
          ∙ sym (in_kinds exports ns a fs begin brace close last);
      places = λ i. structure named.exported
          ((ap (placed_ident named.name) at_name ∙ word_places named.name ns tail name) i)
          ((ap (placed_annotations annotations) at_annotations
          ∙ annotated_kept annotations a (brace ∷ more) annotated) i)
          ((ap (placed_each write_field placed_parameter 0 fields) at_fields
          ∙ each_kept write_field placed_parameter fields fs (close ∷ last ∷ []) stand) i)
          (kin_place named.at (exports ++ begin ∷ []) (ns ++ (a ++ brace ∷ (fs ++ close ∷ []))) last
          whole first (in_place exports ns a fs begin brace close last) i);
    }
  where
    more : List Token
    more = fs ++ close ∷ last ∷ []

    tail : List Token
    tail = a ++ brace ∷ more

    whole : List Token
    whole = exports ++ begin ∷ (ns ++ tail)

    in_kinds : (exports ns a fs : List Token) (begin brace close last : Token) →
        kinds (exports ++ begin ∷ (ns ++ (a ++ brace ∷ (fs ++ close ∷ last ∷ []))))
        ≡ kinds exports ++ (begin.kind ∷ (kinds ns ++ (kinds a ++ (brace.kind ∷ (kinds fs
        ++ close.kind ∷ last.kind ∷ [])))))
    in_kinds exports ns a fs begin brace close last = simp (kinds_append)

    in_place : (exports ns a fs : List Token) (begin brace close last : Token) →
        ((exports ++ begin ∷ []) ++ (ns ++ (a ++ brace ∷ (fs ++ close ∷ [])))) ++ last ∷ []
        ≡ exports ++ begin ∷ (ns ++ (a ++ brace ∷ (fs ++ close ∷ last ∷ [])))
    in_place exports ns a fs begin brace close last = simp (append_assoc)

    at_name : behind (export_words named.exported) 1 whole ≡ ns ++ tail
    at_name = behind_front (export_words named.exported) 1 exports (begin ∷ (ns ++ tail)) exporting

    at_annotations : drop 1 (behind (export_words named.exported) 1 whole) ≡ tail
    at_annotations = ap (drop 1) at_name ∙ word_drop named.name ns tail name

    at_fields : behind (write_annotations annotations) 1
        (drop 1 (behind (export_words named.exported) 1 whole)) ≡ more
    at_fields = ap (behind (write_annotations annotations) 1) at_annotations
        ∙ behind_front (write_annotations annotations) 1 a (brace ∷ more) annotated.writes

-- `enum`, its values, and `;`
pub enumeration_whole : (named : Named) (annotations : Option (List Annotation))
    (values : List EnumValue) (exports ns a vs : List Token) (begin brace close last : Token) →
    export_words named.exported ≡ kinds exports → begin.kind ≡ name_word (codes "enum") →
    Word named.name ns → First named.at (exports ++ begin ∷ []) → Annotated annotations a →
    brace.kind ≡ mark_word (codes "{") → ValuesStand values vs →
    close.kind ≡ mark_word (codes "}") → last.kind ≡ mark_word (codes ";") →
    Declares (enumeration named.exported named.name annotations values (from_to named.at last.end))
    (exports ++ begin ∷ (ns ++ (a ++ brace ∷ (vs ++ close ∷ last ∷ []))))
enumeration_whole named annotations values exports ns a vs begin brace close last exporting is name
    first annotated opens stand closes ends = record {
      writes = (λ i. exporting i ++ (sym is i ∷ (word_writes named.name ns name i
          ++ (annotated.writes i ++ (sym opens i ∷ (stand.writes i
          ++ sym closes i ∷ sym ends i ∷ []))))))
          ∙ sym (in_kinds exports ns a vs begin brace close last);
      places = λ i. enumeration named.exported
          ((ap (placed_ident named.name) at_name ∙ word_places named.name ns tail name) i)
          ((ap (placed_annotations annotations) at_annotations
          ∙ annotated_kept annotations a (brace ∷ more) annotated) i)
          ((ap (placed_each write_enum_value placed_enum_value 1 values) at_values
          ∙ several_kept write_enum_value placed_enum_value values vs (close ∷ last ∷ []) stand) i)
          (kin_place named.at (exports ++ begin ∷ []) (ns ++ (a ++ brace ∷ (vs ++ close ∷ []))) last
          whole first (in_place exports ns a vs begin brace close last) i);
    }
  where
    more : List Token
    more = vs ++ close ∷ last ∷ []

    tail : List Token
    tail = a ++ brace ∷ more

    whole : List Token
    whole = exports ++ begin ∷ (ns ++ tail)

    in_kinds : (exports ns a fs : List Token) (begin brace close last : Token) →
        kinds (exports ++ begin ∷ (ns ++ (a ++ brace ∷ (fs ++ close ∷ last ∷ []))))
        ≡ kinds exports ++ (begin.kind ∷ (kinds ns ++ (kinds a ++ (brace.kind ∷ (kinds fs
        ++ close.kind ∷ last.kind ∷ [])))))
    in_kinds exports ns a fs begin brace close last = simp (kinds_append)

    in_place : (exports ns a fs : List Token) (begin brace close last : Token) →
        ((exports ++ begin ∷ []) ++ (ns ++ (a ++ brace ∷ (fs ++ close ∷ [])))) ++ last ∷ []
        ≡ exports ++ begin ∷ (ns ++ (a ++ brace ∷ (fs ++ close ∷ last ∷ [])))
    in_place exports ns a fs begin brace close last = simp (append_assoc)

    at_name : behind (export_words named.exported) 1 whole ≡ ns ++ tail
    at_name = behind_front (export_words named.exported) 1 exports (begin ∷ (ns ++ tail)) exporting

    at_annotations : drop 1 (behind (export_words named.exported) 1 whole) ≡ tail
    at_annotations = ap (drop 1) at_name ∙ word_drop named.name ns tail name

    at_values : behind (write_annotations annotations) 1
        (drop 1 (behind (export_words named.exported) 1 whole)) ≡ more
    at_values = ap (behind (write_annotations annotations) 1) at_annotations
        ∙ behind_front (write_annotations annotations) 1 a (brace ∷ more) annotated.writes

-- `annotation`, its parameters, and `;`
pub annotation_whole : (named : Named) (parameters : List Parameter)
    (annotations : Option (List Annotation)) (exports ns ps a : List Token) (begin last : Token) →
    export_words named.exported ≡ kinds exports → begin.kind ≡ name_word (codes "annotation") →
    Word named.name ns → First named.at (exports ++ begin ∷ []) → ParametersStand parameters ps →
    Annotated annotations a → last.kind ≡ mark_word (codes ";") →
    Declares (annotation named.exported named.name parameters annotations
    (from_to named.at last.end)) (exports ++ begin ∷ (ns ++ (ps ++ (a ++ last ∷ []))))
annotation_whole named parameters annotations exports ns ps a begin last exporting is name first
    stand annotated ends = record {
      writes = (λ i. exporting i ++ (sym is i ∷ (word_writes named.name ns name i
          ++ (stand.writes i ++ (annotated.writes i ++ (sym ends i ∷ []))))))
          ∙ sym (in_kinds exports ns ps a begin last);
      places = λ i. annotation named.exported
          ((ap (placed_ident named.name) at_name ∙ word_places named.name ns tail name) i)
          ((ap (placed_parameters parameters) at_parameters
          ∙ parameters_kept parameters ps (a ++ last ∷ []) stand) i)
          ((ap (λ t. placed_annotations annotations (behind (write_parameters parameters) 0 t))
          at_parameters ∙ (ap (placed_annotations annotations)
          (behind_front (write_parameters parameters) 0 ps (a ++ last ∷ []) stand.writes)
          ∙ annotated_kept annotations a (last ∷ []) annotated)) i)
          (kin_place named.at (exports ++ begin ∷ []) (ns ++ (ps ++ a)) last whole first
          (in_place exports ns ps a begin last) i);
    }
  where
    tail : List Token
    tail = ps ++ (a ++ last ∷ [])

    whole : List Token
    whole = exports ++ begin ∷ (ns ++ tail)

    in_kinds : (exports ns ps a : List Token) (begin last : Token) →
        kinds (exports ++ begin ∷ (ns ++ (ps ++ (a ++ last ∷ []))))
        ≡ kinds exports ++ (begin.kind ∷ (kinds ns ++ (kinds ps ++ (kinds a ++ last.kind ∷ []))))
    in_kinds exports ns ps a begin last = simp (kinds_append)

    in_place : (exports ns ps a : List Token) (begin last : Token) →
        ((exports ++ begin ∷ []) ++ (ns ++ (ps ++ a))) ++ last ∷ []
        ≡ exports ++ begin ∷ (ns ++ (ps ++ (a ++ last ∷ [])))
    in_place exports ns ps a begin last = simp (append_assoc)

    at_name : behind (export_words named.exported) 1 whole ≡ ns ++ tail
    at_name = behind_front (export_words named.exported) 1 exports (begin ∷ (ns ++ tail)) exporting

    at_parameters : drop 1 (behind (export_words named.exported) 1 whole) ≡ tail
    at_parameters = ap (drop 1) at_name ∙ word_drop named.name ns tail name

-- a function, with its body or without, and `;`
pub function_whole : (fronted : Fronted) (parameters : List Parameter) (frequency : Option Freq)
    (annotations : Option (List Annotation)) (body : Option Tree)
    (exports ts ns ps fs a v : List Token) (last : Token) →
    export_words fronted.named.exported ≡ kinds exports → TypeStands fronted.ty ts →
    Word fronted.named.name ns → First fronted.named.at (exports ++ ts) →
    ParametersStand parameters ps → frequency_words frequency ≡ kinds fs →
    Annotated annotations a → ValueStands body v → last.kind ≡ mark_word (codes ";") →
    Declares (function fronted.named.exported fronted.ty fronted.named.name parameters frequency
    annotations body (from_to fronted.named.at last.end))
    (exports ++ (ts ++ (ns ++ (ps ++ (fs ++ (a ++ (v ++ last ∷ [])))))))
function_whole fronted parameters frequency annotations body exports ts ns ps fs a v last exporting
    typed name first stand often annotated value ends = record {
      writes = (λ i. exporting i ++ (typed.writes i ++ (word_writes fronted.named.name ns name i
          ++ (stand.writes i ++ (often i ++ (annotated.writes i ++ (value_writes body v value i
          ++ sym ends i ∷ [])))))))
          ∙ sym (in_kinds exports ts ns ps fs a v last);
      places = λ i. function fronted.named.exported
          ((ap (placed_type fronted.ty) at_type ∙ type_kept fronted.ty ts (ns ++ tail) typed) i)
          ((ap (placed_ident fronted.named.name) at_name
          ∙ word_places fronted.named.name ns tail name) i)
          ((ap (placed_parameters parameters) at_parameters
          ∙ parameters_kept parameters ps (fs ++ (a ++ (v ++ last ∷ []))) stand) i) frequency
          ((ap (placed_annotations annotations) at_annotations
          ∙ annotated_kept annotations a (v ++ last ∷ []) annotated) i)
          ((ap (λ t. placed_value body (behind (write_annotations annotations) 0 t)) at_annotations
          ∙ (ap (placed_value body) (behind_front (write_annotations annotations) 0 a
          (v ++ last ∷ []) annotated.writes) ∙ value_kept body v (last ∷ []) value)) i)
          (kin_place fronted.named.at (exports ++ ts) (ns ++ (ps ++ (fs ++ (a ++ v)))) last whole
          first (in_place exports ts ns ps fs a v last) i);
    }
  where
    tail : List Token
    tail = ps ++ (fs ++ (a ++ (v ++ last ∷ [])))

    whole : List Token
    whole = exports ++ (ts ++ (ns ++ tail))

    in_kinds : (exports ts ns ps fs a v : List Token) (last : Token) →
        kinds (exports ++ (ts ++ (ns ++ (ps ++ (fs ++ (a ++ (v ++ last ∷ [])))))))
        ≡ kinds exports ++ (kinds ts ++ (kinds ns ++ (kinds ps ++ (kinds fs ++ (kinds a ++ (kinds v
        ++ last.kind ∷ []))))))
    in_kinds exports ts ns ps fs a v last = simp (kinds_append)

    in_place : (exports ts ns ps fs a v : List Token) (last : Token) →
        ((exports ++ ts) ++ (ns ++ (ps ++ (fs ++ (a ++ v))))) ++ last ∷ []
        ≡ exports ++ (ts ++ (ns ++ (ps ++ (fs ++ (a ++ (v ++ last ∷ []))))))
    in_place exports ts ns ps fs a v last = simp (append_assoc)

    at_type : behind (export_words fronted.named.exported) 0 whole ≡ ts ++ (ns ++ tail)
    at_type = behind_front (export_words fronted.named.exported) 0 exports (ts ++ (ns ++ tail))
        exporting

    at_name : behind (type_words fronted.ty) 0 (behind (export_words fronted.named.exported) 0
        whole) ≡ ns ++ tail
    at_name = ap (behind (type_words fronted.ty) 0) at_type
        ∙ behind_front (type_words fronted.ty) 0 ts (ns ++ tail) typed.writes

    at_parameters : drop 1 (behind (type_words fronted.ty) 0
        (behind (export_words fronted.named.exported) 0 whole)) ≡ tail
    at_parameters = ap (drop 1) at_name ∙ word_drop fronted.named.name ns tail name

    at_annotations : behind (frequency_words frequency) 0 (behind (write_parameters parameters) 0
        (drop 1 (behind (type_words fronted.ty) 0
        (behind (export_words fronted.named.exported) 0 whole)))) ≡ a ++ (v ++ last ∷ [])
    at_annotations =
        ap (λ t. behind (frequency_words frequency) 0 (behind (write_parameters parameters) 0 t))
        at_parameters
        ∙ (ap (behind (frequency_words frequency) 0) (behind_front (write_parameters parameters) 0
        ps (fs ++ (a ++ (v ++ last ∷ []))) stand.writes)
        ∙ behind_front (frequency_words frequency) 0 fs (a ++ (v ++ last ∷ [])) often)
