-- The machine of modules reads types, and the names behind them.
use Rattle.std.proofs.Common.{◌≡◌, ◌∙◌, sym, ap, refl, ℕ, Bool, true, false, List, [], ◌∷◌}
use Rattle.std.proofs.Common.{◌++◌, if◌then◌else◌}
use Rattle.std.proofs.lemmas.Bool.{false≢true}
use Rattle.mdl_lexer.specs.declared.token.Token.{Token}
use Rattle.mdl_lexer.specs.declared.token.Kind.TheVariants as kind
use Rattle.mdl_syntax.specs.declared.names.Span.{Span}
use Rattle.mdl_syntax.specs.declared.names.Ident.{Ident}
use Rattle.mdl_syntax.specs.declared.names.Name.{Name}
use Rattle.mdl_syntax.specs.declared.types.Size.TheVariants as size
use Rattle.mdl_syntax.specs.declared.types.TypeTree.{TypeTree}
use Rattle.expression_grammar.specs.inside.Machine.{sort_of, Mode, Path, Head, identifier, integer}
use Rattle.expression_grammar.specs.inside.Machine.{double_colon, type_word, opening_bracket}
use Rattle.expression_grammar.specs.inside.Machine.{closing_bracket, part_wanted}
use Rattle.expression_grammar.specs.inside.Machine.{part_read, word_read, in_type, first_part}
use Rattle.expression_grammar.specs.inside.Machine.{absolute_path, longer_path, word_name, path_name}
use Rattle.expression_grammar.specs.inside.Machine.{type_bracketed, type_sized, name_wanted, type_of}
use Rattle.expression_grammar.specs.inside.Machine.{is_deferred, ident_at}
use Rattle.module_grammar.specs.inside.ModuleMachine.{state_step}
use Rattle.module_grammar.specs.inside.ModuleStates.{State, on, within, Begun, Fronting}
use Rattle.module_grammar.specs.inside.ModuleStates.{of_declaration, of_parameter, of_field, fronting}
use Rattle.module_grammar.specs.inside.ModuleMachine.{named_state, permitted_state, judged, passes}
use Rattle.module_grammar.specs.inside.ModuleMachine.{refused_here}
use Rattle.expression_grammar.specs.inside.Sound.{place}
use Rattle.expression_grammar.specs.inside.Wrote.{PathWrote, one_part, absolute_part, longer_parts}
use Rattle.expression_grammar.specs.inside.Wrote.{NameWrote, a_path, a_word, TypeWrote, of_one, of_size}
use Rattle.expression_grammar.specs.inside.Wrote.{of_deferred}
use Rattle.expression_grammar.proofs.ReadsSorts.{type_sort}
use Rattle.module_grammar.proofs.ModuleReadsParts.{Way, way_on, stay, by_sort}

-- a type may begin in the state, at this place
pub record FrontStart (limit : ℕ) (begun : Begun) (of : Fronting) (head : Head) (state : State)
    (begin : ℕ) : Type 0 where
  pub at_word : (number : ℕ) (text : List ℕ) (own : Span) → own.at ≡ begin →
      state_step limit number state (identifier text) own
      ≡ on (within begun (fronting of (part_read (in_type head) (first_part text own))))
  pub at_colons : (number : ℕ) (own : Span) → own.at ≡ begin →
      state_step limit number state double_colon own
      ≡ on (within begun (fronting of (part_wanted (in_type head) (absolute_path own))))
  pub at_type : (number word : ℕ) (own : Span) → own.at ≡ begin →
      state_step limit number state (type_word word) own
      ≡ on (within begun (fronting of (word_read (in_type head) (word_name word own))))

pub front_kept : (begun : Begun) (of : Fronting) (mode : Mode) → is_deferred mode ≡ false →
    permitted_state (within begun (fronting of mode)) ≡ on (within begun (fronting of mode))
front_kept begun (of_parameter owner parameters) mode is = refl
front_kept begun (of_declaration at exported) mode is =
    ap (λ b. judged (within begun (fronting (of_declaration at exported) mode))
    (if b then refused_here else passes)) is
front_kept begun (of_field held) mode is =
    ap (λ b. judged (within begun (fronting (of_field held) mode))
    (if b then refused_here else passes)) is

pub named_kept : (begun : Begun) (of : Fronting) (head : Head) (ty : TypeTree) (name : Ident) →
    permitted_state (named_state begun of head ty name) ≡ on (named_state begun of head ty name)
named_kept begun (of_parameter owner parameters) head ty name = refl
named_kept begun (of_declaration at exported) head ty name = refl
named_kept begun (of_field held) head ty name = refl

path_way : (strict : Bool) (limit : ℕ) (begun : Begun) (of : Fronting) (head : Head) (state : State)
    (path : Path) (tokens : List Token) → FrontStart limit begun of head state path.span.at →
    PathWrote path tokens →
    Way strict limit state tokens (within begun (fronting of (part_read (in_type head) path)))
path_way strict limit begun of head state path tokens start (one_part word text is) =
    by_sort (within begun (fronting of (part_read (in_type head) (first_part text (place word)))))
    (identifier text) (ap sort_of is) tt (λ number. start.at_word number text (place word) refl)
    (front_kept begun of (part_read (in_type head) (first_part text (place word))) refl) stay
path_way strict limit begun of head state path tokens start
    (absolute_part mark word text is_mark is) =
    let now = absolute_path (place mark) in
    let last = part_read (in_type head) (longer_path now text (place word)) in
    by_sort (within begun (fronting of (part_wanted (in_type head) now))) double_colon
    (ap sort_of is_mark.is) tt (λ number. start.at_colons number (place mark) refl)
    (front_kept begun of (part_wanted (in_type head) now) refl)
    (by_sort (within begun (fronting of last)) (identifier text) (ap sort_of is) tt (λ number. refl)
    (front_kept begun of last refl) stay)
path_way strict limit begun of head state path tokens start
    (longer_parts before names mark word text parts is_mark is) =
    let last = part_read (in_type head) (longer_path before text (place word)) in
    way_on (within begun (fronting of (part_read (in_type head) before)))
    (path_way strict limit begun of head state before names start parts)
    (by_sort (within begun (fronting of (part_wanted (in_type head) before))) double_colon
    (ap sort_of is_mark.is) tt (λ number. refl)
    (front_kept begun of (part_wanted (in_type head) before) refl)
    (by_sort (within begun (fronting of last)) (identifier text) (ap sort_of is) tt (λ number. refl)
    (front_kept begun of last refl) stay))

-- the mode behind a name
pub data NamedMode (head : Head) : Name → Mode → Type 0 where
  as_path : (path : Path) → NamedMode head (path_name path) (part_read (in_type head) path)
  as_word : (name : Name) → NamedMode head name (word_read (in_type head) name)

pub record NameWay (strict : Bool) (limit : ℕ) (begun : Begun) (of : Fronting) (head : Head)
    (state : State) (name : Name) (tokens : List Token) : Type 0 where
  pub mode : Mode
  pub leads : Way strict limit state tokens (within begun (fronting of mode))
  pub edge : NamedMode head name mode

pub name_way : (strict : Bool) (limit : ℕ) (begun : Begun) (of : Fronting) (head : Head) (state : State)
    (name : Name) (tokens : List Token) → FrontStart limit begun of head state name.span.at →
    NameWrote name tokens → NameWay strict limit begun of head state name tokens
name_way strict limit begun of head state name tokens start (a_path path _ wrote) = record {
  mode = part_read (in_type head) path;
  leads = path_way strict limit begun of head state path tokens start wrote;
  edge = as_path path;
}
name_way strict limit begun of head state name tokens start (a_word word number is is_type) =
    let last = word_read (in_type head) (word_name number (place word)) in record {
      mode = last;
      leads = by_sort (within begun (fronting of last)) (type_word number)
          (ap sort_of is ∙ type_sort number is_type) tt
          (λ n. start.at_type n number (place word) refl) (front_kept begun of last refl) stay;
      edge = as_word (word_name number (place word));
    }

word_behind : (limit number : ℕ) (begun : Begun) (of : Fronting) (head : Head) (name : Name)
    (mode : Mode) (text : List ℕ) (own : Span) → NamedMode head name mode →
    state_step limit number (within begun (fronting of mode)) (identifier text) own
    ≡ on (named_state begun of head (type_of name size.One name.span.end) (ident_at text own))
word_behind limit number begun of head name mode text own (as_path _) = refl
word_behind limit number begun of head name mode text own (as_word _) = refl

pub bracket_behind : (limit number : ℕ) (begun : Begun) (of : Fronting) (head : Head) (name : Name)
    (mode : Mode) (own : Span) → NamedMode head name mode →
    state_step limit number (within begun (fronting of mode)) opening_bracket own
    ≡ on (within begun (fronting of (type_bracketed head name)))
bracket_behind limit number begun of head name mode own (as_path _) = refl
bracket_behind limit number begun of head name mode own (as_word _) = refl

-- a type of no deferred size, and the name behind it
pub front_reads : (strict : Bool) (limit : ℕ) (begun : Begun) (of : Fronting) (head : Head)
    (state : State) (ty : TypeTree) (types : List Token) (word : Token) (text : List ℕ) →
    FrontStart limit begun of head state ty.span.at → TypeWrote true ty types →
    word.kind ≡ kind.Word text →
    Way strict limit state (types ++ word ∷ [])
    (named_state begun of head ty (ident_at text (place word)))
front_reads strict limit begun of head state ty types word text start (of_one name names wrote) is =
    let read = name_way strict limit begun of head state name names start wrote in
    let last = named_state begun of head (type_of name size.One name.span.end)
    (ident_at text (place word)) in
    way_on (within begun (fronting of read.mode)) read.leads
    (by_sort last (identifier text) (ap sort_of is) tt
    (λ number. word_behind limit number begun of head name read.mode text (place word) read.edge)
    (named_kept begun of head (type_of name size.One name.span.end) (ident_at text (place word)))
    stay)
front_reads strict limit begun of head state ty types word text start
    (of_size name names bracket digits close value wrote is_bracket is_digits is_close) is =
    let read = name_way strict limit begun of head state name names start wrote in
    let whole = type_of name (size.Sized value) close.end in
    way_on (within begun (fronting of (name_wanted head whole)))
    (way_on (within begun (fronting of read.mode)) read.leads
    (by_sort (within begun (fronting of (type_bracketed head name))) opening_bracket
    (ap sort_of is_bracket.is) tt
    (λ number. bracket_behind limit number begun of head name read.mode (place bracket) read.edge)
    (front_kept begun of (type_bracketed head name) refl)
    (by_sort (within begun (fronting of (type_sized head name value))) (integer value)
    (ap sort_of is_digits) tt (λ number. refl)
    (front_kept begun of (type_sized head name value) refl)
    (by_sort (within begun (fronting of (name_wanted head whole))) closing_bracket
    (ap sort_of is_close.is) tt (λ number. refl)
    (front_kept begun of (name_wanted head whole) refl) stay))))
    (by_sort (named_state begun of head whole (ident_at text (place word))) (identifier text)
    (ap sort_of is) tt (λ number. refl)
    (named_kept begun of head whole (ident_at text (place word))) stay)
front_reads strict limit begun of head state ty types word text start (of_deferred name names bracket
    less own greater close other loose wrote is_bracket is_less is_own is_greater is_close) is =
    absurd (false≢true (sym loose))
