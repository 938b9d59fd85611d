-- The machine of modules reads the fronts of fields, and types of declarations.
use Rattle.std.proofs.Common.{◌≡◌, ap, refl, ℕ, Bool, List, [], ◌∷◌, ◌++◌, codes}
use Rattle.std.proofs.Common.{Option, Some, None}
use Rattle.mdl_lexer.specs.declared.token.Token.{Token}
use Rattle.mdl_lexer.specs.declared.token.Kind.TheVariants as kind
use Rattle.mdl_syntax.specs.declared.names.Span.{Span}
use Rattle.mdl_syntax.specs.declared.names.Name.{Name}
use Rattle.mdl_syntax.specs.declared.types.Freq.{Freq}
use Rattle.mdl_syntax.specs.declared.types.Size.TheVariants as size
use Rattle.mdl_syntax.specs.declared.types.TypeTree.{TypeTree}
use Rattle.mdl_syntax.specs.Levels.{mark_number}
use Rattle.expression_grammar.specs.inside.Machine.{sort_of, Head, identifier, opening_bracket}
use Rattle.expression_grammar.specs.inside.Machine.{closing_bracket, binary_operator, frequency_word}
use Rattle.expression_grammar.specs.inside.Machine.{part_wanted, part_read, word_read, in_type, first_part}
use Rattle.expression_grammar.specs.inside.Machine.{absolute_path, word_name, type_wanted, type_bracketed}
use Rattle.expression_grammar.specs.inside.Machine.{deferred_wanted, deferred_read, deferred_closed}
use Rattle.expression_grammar.specs.inside.Machine.{name_wanted, type_of, ident_at}
use Rattle.module_grammar.specs.inside.ModuleMachine.{state_step}
use Rattle.module_grammar.specs.inside.ModuleStates.{State, on, within, Begun, Fronting}
use Rattle.module_grammar.specs.inside.ModuleStates.{of_declaration, of_parameter, of_field, fronting}
use Rattle.module_grammar.specs.inside.ModuleMachine.{named_state}
use Rattle.module_grammar.specs.inside.ModuleStates.{Struct, fields_read}
use Rattle.expression_grammar.specs.inside.Sound.{place}
use Rattle.expression_grammar.specs.inside.Wrote.{TypeWrote, of_one, of_size, of_deferred}
use Rattle.module_grammar.specs.inside.WroteModules.{FrequencyWrote, no_front, a_front}
use Rattle.expression_grammar.proofs.ReadsSorts.{frequency_sort}
use Rattle.module_grammar.proofs.ModuleReadsParts.{Way, way_on, stay, by_sort, by_loose}
use Rattle.module_grammar.proofs.ModuleReadsTypes.{FrontStart, front_reads, name_way, bracket_behind}
use Rattle.module_grammar.proofs.ModuleReadsTypes.{front_kept, named_kept}

-- no parameter
abbrev pub IsPlain : Fronting → Type 0
IsPlain (of_parameter owner parameters) = ⊥
IsPlain of = Unit {0}

deferred_stays : (limit number : ℕ) (begun : Begun) (of : Fronting) (head : Head) (name : Name)
    (own : Span) → IsPlain of →
    state_step limit number (within begun (fronting of (type_bracketed head name)))
    (binary_operator (mark_number (codes "<")) 8) own
    ≡ on (within begun (fronting of (deferred_wanted head name)))
deferred_stays limit number begun (of_parameter owner parameters) head name own plain = absurd plain
deferred_stays limit number begun (of_declaration at exported) head name own plain = refl
deferred_stays limit number begun (of_field held) head name own plain = refl

-- a type that is no parameter's, and the name behind it
pub plain_front_reads : (strict : Bool) (limit : ℕ) (begun : Begun) (of : Fronting) (head : Head)
    (state : State) (ty : TypeTree) (types : List Token) (word : Token) (text : List ℕ) →
    IsPlain of → FrontStart limit begun of head state ty.span.at → TypeWrote strict ty types →
    word.kind ≡ kind.Word text →
    Way strict limit state (types ++ word ∷ [])
    (named_state begun of head ty (ident_at text (place word)))
plain_front_reads strict limit begun of head state ty types word text plain start
    (of_one name names wrote) is =
    front_reads strict limit begun of head state ty types word text start (of_one name names wrote)
    is
plain_front_reads strict limit begun of head state ty types word text plain start
    (of_size name names bracket digits close value wrote is_bracket is_digits is_close) is =
    front_reads strict limit begun of head state ty types word text start
    (of_size name names bracket digits close value wrote is_bracket is_digits is_close) is
plain_front_reads strict limit begun of head state ty types word text plain start
    (of_deferred name names bracket less own greater close other loose wrote is_bracket is_less
    is_own is_greater is_close) is =
    let read = name_way strict limit begun of head state name names start wrote in
    let ident = ident_at other (place own) in
    let whole = type_of name (size.Deferred ident) close.end in
    way_on (within begun (fronting of (name_wanted head whole)))
    (way_on (within begun (fronting of read.mode)) read.leads
    (by_sort (within begun (fronting of (type_bracketed head name))) opening_bracket
    (ap sort_of is_bracket.is) tt
    (λ number. bracket_behind limit number begun of head name read.mode (place bracket) read.edge)
    (front_kept begun of (type_bracketed head name) refl)
    (by_loose (within begun (fronting of (deferred_wanted head name)))
    (binary_operator (mark_number (codes "<")) 8) (ap sort_of is_less.is) tt
    (λ number. deferred_stays limit number begun of head name (place less) plain) loose
    (by_sort (within begun (fronting of (deferred_read head name ident))) (identifier other)
    (ap sort_of is_own) tt (λ number. refl)
    (front_kept begun of (deferred_read head name ident) refl)
    (by_sort (within begun (fronting of (deferred_closed head name ident)))
    (binary_operator (mark_number (codes ">")) 8) (ap sort_of is_greater.is) tt (λ number. refl)
    (front_kept begun of (deferred_closed head name ident) refl)
    (by_sort (within begun (fronting of (name_wanted head whole))) closing_bracket
    (ap sort_of is_close.is) tt (λ number. refl)
    (front_kept begun of (name_wanted head whole) refl) stay))))))
    (by_sort (named_state begun of head whole (ident_at text (place word))) (identifier text)
    (ap sort_of is) tt (λ number. refl)
    (named_kept begun of head whole (ident_at text (place word))) stay)

-- Frequencies.

abbrev pub head_of : ℕ → Option Freq → Head
head_of at frequency = record { at = at; frequency = frequency }

-- a type may begin behind a frequency
pub typed_start : (limit : ℕ) (begun : Begun) (of : Fronting) (head : Head) (begin : ℕ) →
    FrontStart limit begun of head (within begun (fronting of (type_wanted head))) begin
typed_start limit begun of head begin = record {
  at_word = λ number text own same. refl;
  at_colons = λ number own same. refl;
  at_type = λ number word own same. refl;
}

pub field_start : (limit : ℕ) (begun : Begun) (held : Struct) (begin : ℕ) →
    FrontStart limit begun (of_field held) (head_of begin None) (within begun (fields_read held))
    begin
field_start limit begun held begin = record {
  at_word = λ number text own same.
      ap (λ n. on (within begun (fronting (of_field held)
      (part_read (in_type (head_of n None)) (first_part text own))))) same;
  at_colons = λ number own same.
      ap (λ n. on (within begun (fronting (of_field held)
      (part_wanted (in_type (head_of n None)) (absolute_path own))))) same;
  at_type = λ number word own same.
      ap (λ n. on (within begun (fronting (of_field held)
      (word_read (in_type (head_of n None)) (word_name word own))))) same;
}

-- a field up to its name
pub field_front_reads : (strict : Bool) (limit : ℕ) (begun : Begun) (held : Struct)
    (frequency : Option Freq) (at : ℕ) (ty : TypeTree) (fronts types : List Token) (word : Token)
    (text : List ℕ) → FrequencyWrote ty.span.at frequency at fronts → TypeWrote strict ty types →
    word.kind ≡ kind.Word text →
    Way strict limit (within begun (fields_read held)) (fronts ++ (types ++ word ∷ []))
    (named_state begun (of_field held) (head_of at frequency) ty (ident_at text (place word)))
field_front_reads strict limit begun held frequency at ty fronts types word text no_front wrote is =
    plain_front_reads strict limit begun (of_field held) (head_of at None)
    (within begun (fields_read held)) ty types word text tt
    (field_start limit begun held ty.span.at) wrote is
field_front_reads strict limit begun held frequency at ty fronts types word text
    (a_front front own is_front) wrote is =
    by_sort (within begun (fronting (of_field held) (type_wanted (head_of front.at (Some own)))))
    (frequency_word own) (frequency_sort own front.kind is_front) tt (λ number. refl) refl
    (plain_front_reads strict limit begun (of_field held) (head_of front.at (Some own))
    (within begun (fronting (of_field held) (type_wanted (head_of front.at (Some own))))) ty types
    word text tt
    (typed_start limit begun (of_field held) (head_of front.at (Some own)) ty.span.at) wrote is)
