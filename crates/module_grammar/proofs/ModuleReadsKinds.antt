-- The machine of modules reads declarations that begin with a word of their own.
use Rattle.std.proofs.Common.{◌≡◌, ap, refl, ℕ, ◌≤◌, Bool, true, false, List}
use Rattle.std.proofs.Common.{[], ◌∷◌, ◌++◌, codes, Option, Some, None}
use Rattle.mdl_lexer.specs.declared.token.Token.{Token}
use Rattle.mdl_lexer.specs.declared.token.Kind.TheVariants as kind
use Rattle.mdl_syntax.specs.declared.names.Span.{Span}
use Rattle.mdl_syntax.specs.declared.names.Ident.{Ident}
use Rattle.mdl_syntax.specs.Modules.{Annotation, EnumValue, Parameter, enumeration, structure}
use Rattle.mdl_syntax.specs.AcceptedModules.{highest, enum_value_height, annotations_height}
use Rattle.expression_grammar.specs.inside.Machine.{Sort, sort_of, identifier, struct_word, enum_word}
use Rattle.expression_grammar.specs.inside.Machine.{annotation_word, export_word, opening_brace}
use Rattle.expression_grammar.specs.inside.Machine.{closing_brace, semicolon, ident_at, from_to}
use Rattle.module_grammar.specs.inside.ModuleStates.{State, on, within, Begun, Named, Kin}
use Rattle.module_grammar.specs.inside.ModuleStates.{struct_kin, enum_kin, annotation_kin, kin_named}
use Rattle.module_grammar.specs.inside.ModuleMachine.{item_step}
use Rattle.module_grammar.specs.inside.ModuleStates.{item_wanted, exported_read, Struct}
use Rattle.module_grammar.specs.inside.ModuleMachine.{kin_state, exported_step}
use Rattle.module_grammar.specs.inside.ModuleStates.{enum_named, struct_named, an_enum, a_struct}
use Rattle.module_grammar.specs.inside.ModuleStates.{enum_closed, value_wanted, with_declaration}
use Rattle.module_grammar.specs.inside.ModuleMachine.{permitted_state}
use Rattle.module_grammar.specs.inside.ModuleStates.{struct_closed, fields_read}
use Rattle.expression_grammar.specs.inside.Sound.{IsMark, IsReserved, place}
use Rattle.module_grammar.specs.inside.WroteModules.{ExportWrote, not_exported, export_tokens}
use Rattle.module_grammar.specs.inside.WroteModules.{AnnotationsWrote, SeveralWrote, EnumValueWrote}
use Rattle.module_grammar.proofs.ModuleReadsParts.{Way, way_on, stay, by_sort, IsKept}
use Rattle.module_grammar.proofs.ModuleReadsNotes.{InnerLaw, NotesEdge, unnoted, noted, notes_read}
use Rattle.module_grammar.proofs.ModuleReadsEnums.{enum_of, values_read}

abbrev pub kin_word : Kin → Sort
kin_word struct_kin = struct_word
kin_word enum_kin = enum_word
kin_word annotation_kin = annotation_word

kin_kept : (kin : Kin) → IsKept (kin_word kin)
kin_kept struct_kin = tt
kin_kept enum_kin = tt
kin_kept annotation_kin = tt

first_kin : (token : ℕ) (begun : Begun) (early : Bool) (kin : Kin) (own : Span) →
    item_step token begun early (kin_word kin) own ≡ on (within begun (kin_named own.at false kin))
first_kin token begun true struct_kin own = refl
first_kin token begun true enum_kin own = refl
first_kin token begun true annotation_kin own = refl
first_kin token begun false struct_kin own = refl
first_kin token begun false enum_kin own = refl
first_kin token begun false annotation_kin own = refl

exported_kin : (token : ℕ) (begun : Begun) (at : ℕ) (kin : Kin) (own : Span) →
    exported_step token begun at (kin_word kin) own ≡ on (within begun (kin_named at true kin))
exported_kin token begun at struct_kin own = refl
exported_kin token begun at enum_kin own = refl
exported_kin token begun at annotation_kin own = refl

pub export_takes : (token : ℕ) (begun : Begun) (early : Bool) (own : Span) →
    item_step token begun early export_word own ≡ on (within begun (exported_read own.at))
export_takes token begun true own = refl
export_takes token begun false own = refl

kin_permitted : (begun : Begun) (named : Named) (kin : Kin) →
    permitted_state (within begun (kin_state named kin)) ≡ on (within begun (kin_state named kin))
kin_permitted begun named struct_kin = refl
kin_permitted begun named enum_kin = refl
kin_permitted begun named annotation_kin = refl

abbrev pub named_of : ℕ → Bool → Ident → Named
named_of at exported name = record { at = at; exported = exported; name = name }

name_of_kin : {strict : Bool} {limit : ℕ} {last : State} {tokens : List Token} (begun : Begun)
    (at : ℕ) (exported : Bool) (kin : Kin) (named : Token) (text : List ℕ) →
    named.kind ≡ kind.Word text →
    Way strict limit
    (within begun (kin_state (named_of at exported (ident_at text (place named))) kin)) tokens last →
    Way strict limit (within begun (kin_named at exported kin)) (named ∷ tokens) last
name_of_kin begun at exported kin named text is rest =
    by_sort (within begun (kin_state (named_of at exported (ident_at text (place named))) kin))
    (identifier text) (ap sort_of is) tt (λ number. refl)
    (kin_permitted begun (named_of at exported (ident_at text (place named))) kin) rest

-- `export` if it is written, the word, and the name
pub kin_reads : {strict : Bool} {limit : ℕ} {last : State} {tokens : List Token} (begun : Begun)
    (early exported : Bool) (at : ℕ) (kin : Kin) (word named : Token) (text : List ℕ)
    (exports : List Token) → ExportWrote word.at exported at exports →
    sort_of word.kind ≡ kin_word kin → named.kind ≡ kind.Word text →
    Way strict limit
    (within begun (kin_state (named_of at exported (ident_at text (place named))) kin)) tokens last →
    Way strict limit (within begun (item_wanted early)) (exports ++ word ∷ named ∷ tokens) last
kin_reads begun early exported at kin word named text exports not_exported w is rest =
    by_sort (within begun (kin_named word.at false kin)) (kin_word kin) w (kin_kept kin)
    (λ number. first_kin number begun early kin (place word)) refl
    (name_of_kin begun word.at false kin named text is rest)
kin_reads begun early exported at kin word named text exports (export_tokens front e) w is rest =
    by_sort (within begun (exported_read front.at)) export_word (ap sort_of e.is) tt
    (λ number. export_takes number begun early (place front)) refl
    (by_sort (within begun (kin_named front.at true kin)) (kin_word kin) w (kin_kept kin)
    (λ number. exported_kin number begun front.at kin (place word)) refl
    (name_of_kin begun front.at true kin named text is rest))

-- Enums.

enum_brace : {strict : Bool} {limit : ℕ} {last : State} {tokens : List Token} (begun : Begun)
    (named : Named) (annotations : Option (List Annotation)) (end : ℕ) (state : State)
    (brace : Token) → IsMark brace (codes "{") →
    NotesEdge begun (an_enum named) (within begun (enum_named named)) 0 annotations end state →
    Way strict limit (within begun (value_wanted (enum_of named annotations []))) tokens last →
    Way strict limit state (brace ∷ tokens) last
enum_brace begun named annotations end state brace b unnoted rest =
    by_sort (within begun (value_wanted (enum_of named None []))) opening_brace (ap sort_of b.is) tt
    (λ number. refl) refl rest
enum_brace begun named annotations end state brace b (noted held _) rest =
    by_sort (within begun (value_wanted (enum_of named (Some held) []))) opening_brace
    (ap sort_of b.is) tt (λ number. refl) refl rest

pub enum_reads : (strict : Bool) (limit : ℕ) → InnerLaw strict limit → (begun : Begun)
    (early exported : Bool) (at : ℕ) (word named brace close mark : Token) (text : List ℕ)
    (annotations : Option (List Annotation)) (end : ℕ) (values : List EnumValue)
    (exports notes tokens : List Token) → ExportWrote word.at exported at exports →
    IsReserved word (codes "enum") → named.kind ≡ kind.Word text →
    AnnotationsWrote strict 0 annotations end notes → IsMark brace (codes "{") →
    (values ≡ [] → ⊥) → SeveralWrote (EnumValueWrote strict) values tokens →
    IsMark close (codes "}") → IsMark mark (codes ";") → annotations_height annotations ≤ limit →
    highest enum_value_height values ≤ limit →
    Way strict limit (within begun (item_wanted early))
    (exports ++ word ∷ named ∷ (notes ++ brace ∷ (tokens ++ close ∷ mark ∷ [])))
    (with_declaration begun (enumeration exported (ident_at text (place named)) annotations values
    (from_to at mark.end)) mark.end)
enum_reads strict limit inner begun early exported at word named brace close mark text annotations
    end values exports notes tokens e w is notes_wrote b some wrote c m low values_low =
    let own = named_of at exported (ident_at text (place named)) in
    let read = notes_read strict limit inner begun (an_enum own) (within begun (enum_named own)) 0
    annotations end notes (λ n at. refl) notes_wrote low in
    let held = values_read strict limit inner begun own annotations values tokens some wrote
    values_low in
    kin_reads begun early exported at enum_kin word named text exports e (ap sort_of w.is) is
    (way_on read.last read.leads
    (enum_brace begun own annotations end read.last brace b read.edge
    (way_on held.last held.leads
    (by_sort (within begun (enum_closed (enum_of own annotations values))) closing_brace
    (ap sort_of c.is) tt (λ number. held.edge.at_brace number (place close)) refl
    (by_sort (with_declaration begun (enumeration exported (ident_at text (place named)) annotations
    values (from_to at mark.end)) mark.end) semicolon (ap sort_of m.is) tt (λ number. refl) refl
    stay)))))

-- Structs, once their fields are read.

abbrev pub struct_of : Named → Option (List Annotation) → List Parameter → Struct
struct_of named annotations fields =
    record { named = named; annotations = annotations; fields = fields }

struct_brace : {strict : Bool} {limit : ℕ} {last : State} {tokens : List Token} (begun : Begun)
    (named : Named) (annotations : Option (List Annotation)) (end : ℕ) (state : State)
    (brace : Token) → IsMark brace (codes "{") →
    NotesEdge begun (a_struct named) (within begun (struct_named named)) 0 annotations end state →
    Way strict limit (within begun (fields_read (struct_of named annotations []))) tokens last →
    Way strict limit state (brace ∷ tokens) last
struct_brace begun named annotations end state brace b unnoted rest =
    by_sort (within begun (fields_read (struct_of named None []))) opening_brace (ap sort_of b.is) tt
    (λ number. refl) refl rest
struct_brace begun named annotations end state brace b (noted held _) rest =
    by_sort (within begun (fields_read (struct_of named (Some held) []))) opening_brace
    (ap sort_of b.is) tt (λ number. refl) refl rest

pub struct_reads : (strict : Bool) (limit : ℕ) → InnerLaw strict limit → (begun : Begun)
    (early exported : Bool) (at : ℕ) (word named brace close mark : Token) (text : List ℕ)
    (annotations : Option (List Annotation)) (end : ℕ) (fields : List Parameter)
    (exports notes tokens : List Token) → ExportWrote word.at exported at exports →
    IsReserved word (codes "struct") → named.kind ≡ kind.Word text →
    AnnotationsWrote strict 0 annotations end notes → IsMark brace (codes "{") →
    IsMark close (codes "}") → IsMark mark (codes ";") → annotations_height annotations ≤ limit →
    ((own : Named) → Way strict limit (within begun (fields_read (struct_of own annotations [])))
    tokens (within begun (fields_read (struct_of own annotations fields)))) →
    Way strict limit (within begun (item_wanted early))
    (exports ++ word ∷ named ∷ (notes ++ brace ∷ (tokens ++ close ∷ mark ∷ [])))
    (with_declaration begun (structure exported (ident_at text (place named)) annotations fields
    (from_to at mark.end)) mark.end)
struct_reads strict limit inner begun early exported at word named brace close mark text annotations
    end fields exports notes tokens e w is notes_wrote b c m low law =
    let own = named_of at exported (ident_at text (place named)) in
    let read = notes_read strict limit inner begun (a_struct own) (within begun (struct_named own)) 0
    annotations end notes (λ n at. refl) notes_wrote low in
    kin_reads begun early exported at struct_kin word named text exports e (ap sort_of w.is) is
    (way_on read.last read.leads
    (struct_brace begun own annotations end read.last brace b read.edge
    (way_on (within begun (fields_read (struct_of own annotations fields))) (law own)
    (by_sort (within begun (struct_closed (struct_of own annotations fields))) closing_brace
    (ap sort_of c.is) tt (λ number. refl) refl
    (by_sort (with_declaration begun (structure exported (ident_at text (place named)) annotations
    fields (from_to at mark.end)) mark.end) semicolon (ap sort_of m.is) tt (λ number. refl) refl
    stay)))))
