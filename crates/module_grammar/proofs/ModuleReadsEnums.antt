-- The machine of modules reads the values of enums.
use Rattle.std.proofs.Common.{◌≡◌, sym, ap, subst, refl, arith, ℕ, ◌≤◌, Bool, List, [], ◌∷◌}
use Rattle.std.proofs.Common.{◌++◌, codes, Option, Some, None}
use Rattle.std.proofs.lemmas.List.{append_assoc, append-nil}
use Rattle.mdl_lexer.specs.declared.token.Token.{Token}
use Rattle.mdl_syntax.specs.declared.names.Span.{Span}
use Rattle.mdl_syntax.specs.declared.names.Ident.{Ident}
use Rattle.mdl_syntax.specs.Modules.{Annotation, EnumValue}
use Rattle.mdl_syntax.specs.AcceptedModules.{highest, enum_value_height}
use Rattle.expression_grammar.specs.inside.Machine.{sort_of, identifier, integer, comma, closing_brace}
use Rattle.expression_grammar.specs.inside.Machine.{equals, ident_at}
use Rattle.module_grammar.specs.inside.ModuleMachine.{state_step}
use Rattle.module_grammar.specs.inside.ModuleStates.{State, on, within, Begun, Named, Enum}
use Rattle.module_grammar.specs.inside.ModuleStates.{an_enum_value, value_wanted, value_read}
use Rattle.module_grammar.specs.inside.ModuleStates.{number_wanted, number_read, enum_closed}
use Rattle.module_grammar.specs.inside.ModuleStates.{enum_value_from, with_value}
use Rattle.expression_grammar.specs.inside.Sound.{IsMark, place}
use Rattle.module_grammar.specs.inside.WroteModules.{EnumValueWrote, enum_value_tokens}
use Rattle.module_grammar.specs.inside.WroteModules.{no_number, a_number, MoreWrote, no_more, one_more}
use Rattle.module_grammar.specs.inside.WroteModules.{SeveralWrote, not_any, several}
use Rattle.module_grammar.proofs.ModuleReadsParts.{Way, way_on, stay, by_sort}
use Rattle.module_grammar.proofs.ModuleReadsNotes.{InnerLaw, NotesEdge, unnoted, noted, notes_read}

abbrev pub enum_of : Named → Option (List Annotation) → List EnumValue → Enum
enum_of named annotations values =
    record { named = named; annotations = annotations; values = values }

-- the state acts as if these values had been read
pub record ValueEdge (limit : ℕ) (begun : Begun) (held : Enum) (state : State) : Type 0 where
  pub at_comma : (number : ℕ) (own : Span) → state_step limit number state comma own
      ≡ on (within begun (value_wanted held))
  pub at_brace : (number : ℕ) (own : Span) → state_step limit number state closing_brace own
      ≡ on (within begun (enum_closed held))

pub record ValueReads (strict : Bool) (limit : ℕ) (begun : Begun) (held : Enum) (state : State)
    (tokens : List Token) : Type 0 where
  pub last : State
  pub leads : Way strict limit state tokens last
  pub edge : ValueEdge limit begun held last

plain_edge : (limit : ℕ) (begun : Begun) (held : Enum) (name : Ident)
    (annotations : Option (List Annotation)) (end : ℕ) (state : State) →
    NotesEdge begun (an_enum_value held name None) (within begun (value_read held name))
    name.span.end annotations end state →
    ValueEdge limit begun (with_value held (enum_value_from name None annotations end)) state
plain_edge limit begun held name annotations end state unnoted =
    record { at_comma = λ number own. refl; at_brace = λ number own. refl }
plain_edge limit begun held name annotations end state (noted _ _) =
    record { at_comma = λ number own. refl; at_brace = λ number own. refl }

numbered_edge : (limit : ℕ) (begun : Begun) (held : Enum) (name : Ident) (value behind : ℕ)
    (annotations : Option (List Annotation)) (end : ℕ) (state : State) →
    NotesEdge begun (an_enum_value held name (Some value))
    (within begun (number_read held name value behind)) behind annotations end state →
    ValueEdge limit begun (with_value held (enum_value_from name (Some value) annotations end)) state
numbered_edge limit begun held name value behind annotations end state unnoted =
    record { at_comma = λ number own. refl; at_brace = λ number own. refl }
numbered_edge limit begun held name value behind annotations end state (noted _ _) =
    record { at_comma = λ number own. refl; at_brace = λ number own. refl }

value_reads : (strict : Bool) (limit : ℕ) → InnerLaw strict limit → (begun : Begun) (held : Enum)
    (one : EnumValue) (tokens : List Token) → EnumValueWrote strict one tokens →
    enum_value_height one ≤ limit →
    ValueReads strict limit begun (with_value held one) (within begun (value_wanted held)) tokens
value_reads strict limit inner begun held one tokens
    (enum_value_tokens word text number behind annotations end numbers notes is no_number
    notes_wrote) low =
    let name = ident_at text (place word) in
    let read = notes_read strict limit inner begun (an_enum_value held name None)
    (within begun (value_read held name)) word.end annotations end notes (λ n at. refl) notes_wrote
    low in record {
      last = read.last;
      leads = by_sort (within begun (value_read held name)) (identifier text) (ap sort_of is) tt
          (λ n. refl) refl read.leads;
      edge = plain_edge limit begun held name annotations end read.last read.edge;
    }
value_reads strict limit inner begun held one tokens
    (enum_value_tokens word text number behind annotations end numbers notes is
    (a_number mark digits value m d) notes_wrote) low =
    let name = ident_at text (place word) in
    let read = notes_read strict limit inner begun (an_enum_value held name (Some value))
    (within begun (number_read held name value digits.end)) digits.end annotations end notes
    (λ n at. refl) notes_wrote low in record {
      last = read.last;
      leads = by_sort (within begun (value_read held name)) (identifier text) (ap sort_of is) tt
          (λ n. refl) refl
          (by_sort (within begun (number_wanted held name)) equals (ap sort_of m.is) tt (λ n. refl)
          refl (by_sort (within begun (number_read held name value digits.end)) (integer value)
          (ap sort_of d) tt (λ n. refl) refl read.leads));
      edge = numbered_edge limit begun held name value digits.end annotations end read.last
          read.edge;
    }

-- one more behind `,`
value_on : (strict : Bool) (limit : ℕ) (begun : Begun) (named : Named)
    (notes : Option (List Annotation)) (values : List EnumValue) (first : EnumValue)
    (others : List EnumValue) (state : State) (mark : Token) (own behind : List Token) →
    IsMark mark (codes ",") → ValueEdge limit begun (enum_of named notes values) state →
    (read : ValueReads strict limit begun (enum_of named notes (values ++ first ∷ []))
    (within begun (value_wanted (enum_of named notes values))) own) →
    ValueReads strict limit begun (enum_of named notes ((values ++ first ∷ []) ++ others)) read.last
    behind →
    ValueReads strict limit begun (enum_of named notes (values ++ first ∷ others)) state
    (mark ∷ (own ++ behind))
value_on strict limit begun named notes values first others state mark own behind m edge read rest =
    subst (λ list. ValueReads strict limit begun (enum_of named notes list) state
    (mark ∷ (own ++ behind))) (append_assoc values (first ∷ []) others) (record {
      last = rest.last;
      leads = by_sort (within begun (value_wanted (enum_of named notes values))) comma
          (ap sort_of m.is) tt (λ number. edge.at_comma number (place mark)) refl
          (way_on read.last read.leads rest.leads);
      edge = rest.edge;
    })

more_values : (strict : Bool) (limit : ℕ) → InnerLaw strict limit → (begun : Begun) (named : Named)
    (notes : Option (List Annotation)) (values more : List EnumValue) (state : State)
    (tokens : List Token) → ValueEdge limit begun (enum_of named notes values) state →
    MoreWrote (EnumValueWrote strict) more tokens → highest enum_value_height more ≤ limit →
    ValueReads strict limit begun (enum_of named notes (values ++ more)) state tokens
more_values strict limit inner begun named notes values more state tokens edge no_more low =
    subst (λ list. ValueReads strict limit begun (enum_of named notes list) state [])
    (sym (append-nil values)) (record { last = state; leads = stay; edge = edge })
more_values strict limit inner begun named notes values more state tokens edge
    (one_more mark first others own behind m one_wrote more_wrote) low =
    let read = value_reads strict limit inner begun (enum_of named notes values) first own one_wrote
    (omega (arith, low)) in
    value_on strict limit begun named notes values first others state mark own behind m edge read
    (more_values strict limit inner begun named notes (values ++ first ∷ []) others read.last behind
    read.edge more_wrote (omega (arith, low)))

pub values_read : (strict : Bool) (limit : ℕ) → InnerLaw strict limit → (begun : Begun)
    (named : Named) (notes : Option (List Annotation)) (values : List EnumValue)
    (tokens : List Token) → (values ≡ [] → ⊥) → SeveralWrote (EnumValueWrote strict) values tokens →
    highest enum_value_height values ≤ limit →
    ValueReads strict limit begun (enum_of named notes values)
    (within begun (value_wanted (enum_of named notes []))) tokens
values_read strict limit inner begun named notes values tokens some not_any low = absurd (some refl)
values_read strict limit inner begun named notes values tokens some
    (several first more own others one_wrote more_wrote) low =
    let read = value_reads strict limit inner begun (enum_of named notes []) first own one_wrote
    (omega (arith, low)) in
    let rest = more_values strict limit inner begun named notes (first ∷ []) more read.last others
    read.edge more_wrote (omega (arith, low)) in record {
      last = rest.last;
      leads = way_on read.last read.leads rest.leads;
      edge = rest.edge;
    }
