-- Whole functions, materials and variants, and annotations, stand for their tokens.
use Rattle.std.proofs.Common.{◌≡◌, ◌∙◌, ◌+◌, ◌&&◌, sym, ap, subst, refl, arith, suc, Bool}
use Rattle.std.proofs.Common.{true, false, List, [], ◌∷◌, ◌++◌, length, drop, codes, Option, Some}
use Rattle.std.proofs.Common.{None}
use Rattle.std.proofs.Common.{if◌then◌else◌}
use Rattle.std.proofs.lemmas.Bool.{eqb-true, false≢true}
use Rattle.std.proofs.lemmas.List.{append_assoc, length-append, drop-append-le, length-drop}
use Rattle.mdl_lexer.specs.Kinds.{mark_word, name_word}
use Rattle.mdl_lexer.specs.declared.token.Kind.{Kind}
use Rattle.mdl_lexer.specs.declared.token.Kind.TheVariants as kind
use Rattle.mdl_lexer.specs.declared.token.Token.{Token}
use Rattle.mdl_syntax.specs.declared.names.Span.{Span}
use Rattle.mdl_syntax.specs.declared.names.Name.{Name}
use Rattle.mdl_syntax.specs.declared.names.NameForm.{NameForm}
use Rattle.mdl_syntax.specs.declared.names.NameForm.TheVariants as form
use Rattle.mdl_syntax.specs.declared.types.Size.{Size}
use Rattle.mdl_syntax.specs.declared.types.Size.TheVariants as size
use Rattle.mdl_syntax.specs.declared.types.TypeTree.{TypeTree}
use Rattle.mdl_syntax.specs.declared.types.Freq.{Freq}
use Rattle.mdl_syntax.specs.Levels.{reserved_number}
use Rattle.mdl_syntax.specs.Trees.{Tree, Arguments, call}
use Rattle.mdl_syntax.specs.Words.{form_words, size_words, name_words, type_words, frequency_words}
use Rattle.mdl_syntax.specs.Written.{write, write_arguments}
use Rattle.mdl_syntax.specs.Placed.{tokens_of, behind, placed, placed_ident, placed_name}
use Rattle.mdl_syntax.specs.Placed.{placed_type, placed_arguments}
use Rattle.mdl_syntax.specs.Modules.{Annotation, Parameter, material, variant, function}
use Rattle.mdl_syntax.specs.WrittenModules.{write_annotation, write_annotations, write_parameters}
use Rattle.mdl_syntax.specs.WrittenModules.{export_words}
use Rattle.mdl_syntax.specs.PlacedModules.{placed_annotation, placed_annotations, placed_parameters}
use Rattle.expression_grammar.specs.Readings.{kinds}
use Rattle.expression_grammar.specs.inside.Machine.{from_to}
use Rattle.expression_grammar.specs.inside.Stands.{Stands, TypeStands}
use Rattle.module_grammar.specs.inside.ModuleParts.{Part, First}
use Rattle.module_grammar.specs.inside.ModuleStates.{Fronted, is_material_form, is_one, is_material}
use Rattle.module_grammar.specs.inside.ModuleMachine.{variant_from}
use Rattle.module_grammar.specs.inside.ModuleStates.{function_from}
use Rattle.module_grammar.specs.inside.ModuleHolds.{Word, Annotated, ValueBehind, ParametersStand}
use Rattle.expression_grammar.proofs.KindLaws.{kinds_append, length_kinds, behind_front, front_of}
use Rattle.expression_grammar.proofs.KindLaws.{name_front}
use Rattle.expression_grammar.proofs.ListLaws.{arguments_front}
use Rattle.module_grammar.proofs.ModulePartLaws.{type_kept, annotated_kept, parameters_kept}
use Rattle.module_grammar.proofs.ModulePartLaws.{word_writes, word_places, word_drop}
use Rattle.module_grammar.proofs.ModuleWholeLaws.{Declares, kin_place, function_whole}

-- Materials.

both : (one other : Bool) → (one && other) ≡ true → (one ≡ true) × (other ≡ true)
both true true is = (refl, refl)
both true false is = absurd (false≢true is)
both false true is = absurd (false≢true is)
both false false is = absurd (false≢true is)

one_size : (own : Size) → is_one own ≡ true → size_words own ≡ []
one_size size.One is = refl
one_size (size.Sized number) is = absurd (false≢true is)
one_size (size.Deferred name) is = absurd (false≢true is)

material_form : (own : NameForm) → is_material_form own ≡ true →
    form_words own ≡ name_word (codes "material") ∷ []
material_form (form.Word number) is =
    ap (λ n. kind.Reserved n ∷ []) (eqb-true number (reserved_number (codes "material")) is)
material_form (form.Parts absolute parts) is = absurd (false≢true is)

material_words : (ty : TypeTree) → is_material ty ≡ true →
    type_words ty ≡ name_word (codes "material") ∷ []
material_words ty is =
    let (first, second) = both (is_material_form ty.name.form) (is_one ty.size) is in λ i.
    material_form ty.name.form first i ++ one_size ty.size second i

one_drop : (word : Kind) (tokens rest : List Token) → word ∷ [] ≡ kinds tokens →
    drop 1 (tokens ++ rest) ≡ rest
one_drop word [] rest is = absurd (omega (arith, ap length is))
one_drop word (token ∷ []) rest is = refl
one_drop word (token ∷ next ∷ tokens) rest is = absurd (omega (arith, ap length is))

material_whole : (fronted : Fronted) (parameters : List Parameter)
    (annotations : Option (List Annotation)) (body : Tree)
    (exports ts ns ps a own : List Token) (equals last : Token) →
    is_material fronted.ty ≡ true →
    export_words fronted.named.exported ≡ kinds exports → TypeStands fronted.ty ts →
    Word fronted.named.name ns → First fronted.named.at (exports ++ ts) →
    ParametersStand parameters ps → Annotated annotations a →
    equals.kind ≡ mark_word (codes "=") → Stands body own → last.kind ≡ mark_word (codes ";") →
    Declares (material fronted.named.exported fronted.named.name parameters annotations body
    (from_to fronted.named.at last.end))
    (exports ++ (ts ++ (ns ++ (ps ++ (a ++ equals ∷ (own ++ last ∷ []))))))
material_whole fronted parameters annotations body exports ts ns ps a own equals last is exporting
    typed name first stand annotated begins value ends = record {
      writes = (λ i. exporting i ++ ((sym (material_words fronted.ty is) ∙ typed.writes) i
          ++ (word_writes fronted.named.name ns name i ++ (stand.writes i ++ (annotated.writes i
          ++ (sym begins i ∷ (value.writes i ++ sym ends i ∷ [])))))))
          ∙ sym (in_kinds exports ts ns ps a own equals last);
      places = λ i. material fronted.named.exported
          ((ap (placed_ident fronted.named.name) at_name
          ∙ word_places fronted.named.name ns tail name) i)
          ((ap (placed_parameters parameters) at_parameters
          ∙ parameters_kept parameters ps (a ++ more) stand) i)
          ((ap (placed_annotations annotations) at_annotations
          ∙ annotated_kept annotations a more annotated) i)
          ((ap (λ t. placed body (tokens_of (write body) (behind (write_annotations annotations) 1
          t))) at_annotations ∙ (ap (λ t. placed body (tokens_of (write body) t))
          (behind_front (write_annotations annotations) 1 a more annotated.writes)
          ∙ (ap (placed body) (front_of (write body) own (last ∷ []) value.writes)
          ∙ value.places))) i)
          (kin_place fronted.named.at (exports ++ ts) (ns ++ (ps ++ (a ++ equals ∷ own))) last whole
          first (in_place exports ts ns ps a own equals last) i);
    }
  where
    more : List Token
    more = equals ∷ (own ++ last ∷ [])

    tail : List Token
    tail = ps ++ (a ++ more)

    whole : List Token
    whole = exports ++ (ts ++ (ns ++ tail))

    in_kinds : (exports ts ns ps a own : List Token) (equals last : Token) →
        kinds (exports ++ (ts ++ (ns ++ (ps ++ (a ++ equals ∷ (own ++ last ∷ []))))))
        ≡ kinds exports ++ (kinds ts ++ (kinds ns ++ (kinds ps ++ (kinds a
        ++ (equals.kind ∷ (kinds own ++ last.kind ∷ []))))))
    in_kinds exports ts ns ps a own equals last = simp (kinds_append)

    in_place : (exports ts ns ps a own : List Token) (equals last : Token) →
        ((exports ++ ts) ++ (ns ++ (ps ++ (a ++ equals ∷ own)))) ++ last ∷ []
        ≡ exports ++ (ts ++ (ns ++ (ps ++ (a ++ equals ∷ (own ++ last ∷ [])))))
    in_place exports ts ns ps a own equals last = simp (append_assoc)

    one_word : name_word (codes "material") ∷ [] ≡ kinds ts
    one_word = sym (material_words fronted.ty is) ∙ typed.writes

    at_name : behind (export_words fronted.named.exported) 1 whole ≡ ns ++ tail
    at_name = behind_front (export_words fronted.named.exported) 1 exports (ts ++ (ns ++ tail))
        exporting ∙ one_drop (name_word (codes "material")) ts (ns ++ tail) one_word

    at_parameters : drop 1 (behind (export_words fronted.named.exported) 1 whole) ≡ tail
    at_parameters = ap (drop 1) at_name ∙ word_drop fronted.named.name ns tail name

    at_annotations : behind (write_parameters parameters) 0
        (drop 1 (behind (export_words fronted.named.exported) 1 whole)) ≡ a ++ more
    at_annotations = ap (behind (write_parameters parameters) 0) at_parameters
        ∙ behind_front (write_parameters parameters) 0 ps (a ++ more) stand.writes

-- a function with a body, or the material that it is
pub function_from_whole : (fronted : Fronted) (parameters : List Parameter)
    (frequency : Option Freq) (annotations : Option (List Annotation)) (body : Tree)
    (exports ts ns ps fs a v : List Token) (last : Token) →
    export_words fronted.named.exported ≡ kinds exports → TypeStands fronted.ty ts →
    Word fronted.named.name ns → First fronted.named.at (exports ++ ts) →
    ParametersStand parameters ps → frequency_words frequency ≡ kinds fs →
    Annotated annotations a → ValueBehind body v → last.kind ≡ mark_word (codes ";") →
    Declares (function_from fronted parameters frequency annotations body last.end)
    (exports ++ (ts ++ (ns ++ (ps ++ (fs ++ (a ++ (v ++ last ∷ [])))))))
function_from_whole fronted parameters (Some frequency) annotations body exports ts ns ps fs a v last
    exporting typed name first stand often annotated value ends =
    function_whole fronted parameters (Some frequency) annotations (Some body) exports ts ns ps fs a
    v last exporting typed name first stand often annotated value ends
function_from_whole fronted parameters None annotations body exports ts ns ps (f ∷ fs) a v last
    exporting typed name first stand often annotated value ends =
    absurd (omega (arith, ap length often))
function_from_whole fronted parameters None annotations body exports ts ns ps [] a v last exporting
    typed name first stand often annotated value ends = by (is_material fronted.ty) refl
  where
    by : (test : Bool) → is_material fronted.ty ≡ test →
        Declares (if test
        then material fronted.named.exported fronted.named.name parameters annotations body
        (from_to fronted.named.at last.end)
        else function fronted.named.exported fronted.ty fronted.named.name parameters None
        annotations (Some body) (from_to fronted.named.at last.end))
        (exports ++ (ts ++ (ns ++ (ps ++ (a ++ (v ++ last ∷ []))))))
    by true is =
        subst (λ t. Declares (material fronted.named.exported fronted.named.name parameters
        annotations body (from_to fronted.named.at last.end))
        (exports ++ (ts ++ (ns ++ (ps ++ (a ++ (t ++ last ∷ []))))))) value.are
        (material_whole fronted parameters annotations body exports ts ns ps a value.own value.equals
        last is exporting typed name first stand annotated value.is value.stands ends)
    by false is =
        function_whole fronted parameters None annotations (Some body) exports ts ns ps [] a v last
        exporting typed name first stand often annotated value ends

-- Calls.

-- the call of an annotation
pub annotation_part : (name : Name) (arguments : Arguments) (span : Span) (own : List Token) →
    Stands (call name arguments span) own →
    Part write_annotation placed_annotation
    (record { name = name; arguments = arguments; span = span }) own
annotation_part name arguments span own stands = record {
  writes = stands.writes;
  places = ap annotation_from stands.places;
}
  where
    annotation_from : Tree → Annotation
    annotation_from (call own_name own_arguments own_span) =
        record { name = own_name; arguments = own_arguments; span = own_span }
    annotation_from other = record { name = name; arguments = arguments; span = span }

call_lists : (n a : List Kind) (o c s : Kind) →
    n ++ o ∷ (a ++ c ∷ s ∷ []) ≡ (n ++ o ∷ (a ++ c ∷ [])) ++ s ∷ []
call_lists n a o c s = simp (append_assoc)

-- `=`, a call and `;` behind the front of a variant
pub variant_whole : (fronted : Fronted) (annotations : Option (List Annotation)) (base : Annotation)
    (exports ts ns a own : List Token) (opener star closer equals last : Token) →
    export_words fronted.named.exported ≡ kinds exports → TypeStands fronted.ty ts →
    Word fronted.named.name ns → First fronted.named.at (exports ++ ts) →
    opener.kind ≡ mark_word (codes "(") → star.kind ≡ mark_word (codes "*") →
    closer.kind ≡ mark_word (codes ")") → Annotated annotations a →
    equals.kind ≡ mark_word (codes "=") → Part write_annotation placed_annotation base own →
    last.kind ≡ mark_word (codes ";") →
    Declares (variant_from fronted annotations base last.end)
    (exports ++ (ts ++ (ns ++ opener ∷ star ∷ closer ∷ (a ++ equals ∷ (own ++ last ∷ [])))))
variant_whole fronted annotations base exports ts ns a own opener star closer equals last exporting
    typed name first opens starred closes annotated begins value ends = record {
      writes = (λ i. exporting i ++ (typed.writes i ++ (word_writes fronted.named.name ns name i
          ++ (sym opens i ∷ sym starred i ∷ sym closes i ∷ (annotated.writes i
          ++ (sym begins i ∷ (call_lists (name_words base.name) (write_arguments base.arguments)
          (mark_word (codes "(")) (mark_word (codes ")")) (mark_word (codes ";"))
          ∙ (λ j. value.writes j ++ sym ends j ∷ [])) i))))))
          ∙ sym (in_kinds exports ts ns a own opener star closer equals last);
      places = λ i. variant fronted.named.exported
          ((ap (placed_type fronted.ty) at_type ∙ type_kept fronted.ty ts (ns ++ tail) typed) i)
          ((ap (placed_ident fronted.named.name) at_name
          ∙ word_places fronted.named.name ns tail name) i)
          ((ap (placed_annotations annotations) at_annotations
          ∙ annotated_kept annotations a (equals ∷ more) annotated) i)
          ((ap (placed_name base.name) at_base
          ∙ (name_front base.name own (last ∷ []) (omega (arith, size))
          ∙ ap (λ one. one.name) value.places)) i)
          ((ap (λ t. placed_arguments base.arguments (behind (name_words base.name) 1 t)) at_base
          ∙ (ap (placed_arguments base.arguments)
          (drop-append-le (length (name_words base.name) + 1) own (last ∷ [])
          (omega (arith, size)))
          ∙ (arguments_front base.arguments (behind (name_words base.name) 1 own) (last ∷ [])
          (omega (arith, size, length-drop (length (name_words base.name) + 1) own))
          ∙ ap (λ one. one.arguments) value.places))) i)
          (kin_place fronted.named.at (exports ++ ts)
          (ns ++ opener ∷ star ∷ closer ∷ (a ++ equals ∷ own)) last whole first
          (in_place exports ts ns a own opener star closer equals last) i);
    }
  where
    size : length (name_words base.name) + (suc (length (write_arguments base.arguments)) + 1)
        ≡ length own
    size = omega (
      arith,
      length_kinds (write_annotation base) own value.writes,
      length-append (name_words base.name) (mark_word (codes "(") ∷
          (write_arguments base.arguments ++ mark_word (codes ")") ∷ [])),
      length-append (write_arguments base.arguments) (mark_word (codes ")") ∷ []),
    )

    more : List Token
    more = own ++ last ∷ []

    tail : List Token
    tail = opener ∷ star ∷ closer ∷ (a ++ equals ∷ more)

    whole : List Token
    whole = exports ++ (ts ++ (ns ++ tail))

    in_kinds : (exports ts ns a own : List Token) (opener star closer equals last : Token) →
        kinds (exports ++ (ts ++ (ns ++ opener ∷ star ∷ closer ∷ (a ++ equals ∷ (own ++ last
        ∷ [])))))
        ≡ kinds exports ++ (kinds ts ++ (kinds ns ++ (opener.kind ∷ star.kind ∷ closer.kind
        ∷ (kinds a ++ (equals.kind ∷ (kinds own ++ last.kind ∷ []))))))
    in_kinds exports ts ns a own opener star closer equals last = simp (kinds_append)

    in_place : (exports ts ns a own : List Token) (opener star closer equals last : Token) →
        ((exports ++ ts) ++ (ns ++ opener ∷ star ∷ closer ∷ (a ++ equals ∷ own))) ++ last ∷ []
        ≡ exports ++ (ts ++ (ns ++ opener ∷ star ∷ closer ∷ (a ++ equals ∷ (own ++ last ∷ []))))
    in_place exports ts ns a own opener star closer equals last = simp (append_assoc)

    at_type : behind (export_words fronted.named.exported) 0 whole ≡ ts ++ (ns ++ tail)
    at_type = behind_front (export_words fronted.named.exported) 0 exports (ts ++ (ns ++ tail))
        exporting

    at_name : behind (type_words fronted.ty) 0 (behind (export_words fronted.named.exported) 0
        whole) ≡ ns ++ tail
    at_name = ap (behind (type_words fronted.ty) 0) at_type
        ∙ behind_front (type_words fronted.ty) 0 ts (ns ++ tail) typed.writes

    at_annotations : drop 4 (behind (type_words fronted.ty) 0
        (behind (export_words fronted.named.exported) 0 whole)) ≡ a ++ equals ∷ more
    at_annotations = ap (drop 4) at_name ∙ ap (λ t. drop 4 (t ++ tail)) (sym name.are)

    at_base : behind (write_annotations annotations) 1 (drop 4 (behind (type_words fronted.ty) 0
        (behind (export_words fronted.named.exported) 0 whole))) ≡ more
    at_base = ap (behind (write_annotations annotations) 1) at_annotations
        ∙ behind_front (write_annotations annotations) 1 a (equals ∷ more) annotated.writes
