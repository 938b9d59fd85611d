-- The machine of modules reads fields, once annotations and defaults are read.
use Rattle.std.proofs.Common.{◌≡◌, ◌∙◌, sym, ap, subst, refl, arith, ℕ, ◌≤◌, Bool, List, []}
use Rattle.std.proofs.Common.{◌∷◌, ◌++◌, codes, Option, Some, None}
use Rattle.std.proofs.lemmas.List.{append_assoc}
use Rattle.mdl_lexer.specs.declared.token.Token.{Token}
use Rattle.mdl_syntax.specs.declared.names.Span.{Span}
use Rattle.mdl_syntax.specs.Trees.{Tree}
use Rattle.mdl_syntax.specs.Heights.{height}
use Rattle.mdl_syntax.specs.Placed.{last_end}
use Rattle.mdl_syntax.specs.Modules.{Annotation, Parameter, Declaration}
use Rattle.mdl_syntax.specs.AcceptedModules.{highest, parameter_height, value_height}
use Rattle.mdl_syntax.specs.AcceptedModules.{annotations_height}
use Rattle.expression_grammar.specs.inside.Machine.{sort_of, semicolon, equals, wanted, ident_at}
use Rattle.module_grammar.specs.inside.ModuleMachine.{state_step}
use Rattle.module_grammar.specs.inside.ModuleStates.{State, on, within, Begun, Named}
use Rattle.module_grammar.specs.inside.ModuleStates.{Struct, Front, a_field, fields_read, field_read}
use Rattle.module_grammar.specs.inside.ModuleStates.{with_field, plain_parameter, parameter_from}
use Rattle.module_grammar.specs.inside.ModuleStates.{expression, in_field_default, first_annotation, annotated}
use Rattle.module_grammar.specs.inside.ModuleMachine.{front_from}
use Rattle.module_grammar.specs.inside.ModuleStates.{with_declaration}
use Rattle.expression_grammar.specs.inside.Sound.{IsMark, place}
use Rattle.expression_grammar.specs.inside.Wrote.{Wrote}
use Rattle.module_grammar.specs.inside.WroteModules.{ValueWrote, no_value, a_value, AnnotationsWrote}
use Rattle.module_grammar.specs.inside.WroteModules.{not_annotated, annotations_tokens, FieldWrote}
use Rattle.module_grammar.specs.inside.WroteModules.{field_tokens, parameter_tokens, EachWrote}
use Rattle.module_grammar.specs.inside.WroteModules.{DeclarationWrote}
use Rattle.module_grammar.proofs.ModuleEndLaws.{declaration_ends, declaration_span}
use Rattle.module_grammar.proofs.ModuleReadsParts.{Way, way_on, stay, by_sort}
use Rattle.module_grammar.proofs.ModuleReadsLists.{EachLaw, each_reads}
use Rattle.module_grammar.proofs.ModuleReadsNotes.{InnerLaw, NotesEdge, unnoted, noted, notes_read}
use Rattle.module_grammar.proofs.ModuleReadsKinds.{struct_of}
use Rattle.module_grammar.proofs.ModuleReadsFronts.{head_of, field_front_reads}

-- a default is read, up to `;` or annotations
pub record FieldValue (strict : Bool) (limit : ℕ) (begun : Begun) (held : Struct) (front : Front)
    (tree : Tree) (tokens : List Token) : Type 0 where
  pub last : State
  pub leads : Way strict limit (within begun (expression (in_field_default held front) wanted []))
      tokens last
  pub at_semicolon : (number : ℕ) (own : Span) → state_step limit number last semicolon own
      ≡ on (within begun (fields_read (with_field held (plain_parameter front (Some tree)))))
  pub at_brackets : (one two : Token) → IsMark one (codes "[") → IsMark two (codes "[") →
      Way strict limit last (one ∷ two ∷ [])
      (within begun (first_annotation (a_field held front (Some tree))))

abbrev pub FieldValueLaw : Bool → ℕ → Type 0
FieldValueLaw strict limit =
    (begun : Begun) (held : Struct) (front : Front) (tree : Tree) (tokens : List Token) →
    Wrote strict tree tokens → height tree ≤ limit →
    FieldValue strict limit begun held front tree tokens

-- the state acts as if the field had been read, save for its `;`
record FieldReads (strict : Bool) (limit : ℕ) (begun : Begun) (held : Struct) (one : Parameter)
    (state : State) (tokens : List Token) : Type 0 where
  last : State
  leads : Way strict limit state tokens last
  at_semicolon : (number : ℕ) (own : Span) → state_step limit number last semicolon own
      ≡ on (within begun (fields_read (with_field held one)))

plain_ends : (limit number : ℕ) (begun : Begun) (held : Struct) (front : Front)
    (annotations : Option (List Annotation)) (end : ℕ) (state : State) (own : Span) →
    NotesEdge begun (a_field held front None) (within begun (field_read held front))
    front.name.span.end annotations end state →
    state_step limit number state semicolon own
    ≡ on (within begun (fields_read (with_field held (parameter_from front None annotations end))))
plain_ends limit number begun held front annotations end state own unnoted = refl
plain_ends limit number begun held front annotations end state own (noted _ _) = refl

-- behind the name of a field
field_rest : (strict : Bool) (limit : ℕ) → InnerLaw strict limit → FieldValueLaw strict limit →
    (begun : Begun) (held : Struct) (front : Front) (default : Option Tree) (behind : ℕ)
    (annotations : Option (List Annotation)) (end : ℕ) (values notes : List Token) →
    ValueWrote strict front.name.span.end default behind values →
    AnnotationsWrote strict behind annotations end notes → value_height default ≤ limit →
    annotations_height annotations ≤ limit →
    FieldReads strict limit begun held (parameter_from front default annotations end)
    (within begun (field_read held front)) (values ++ notes)
field_rest strict limit inner law begun held front default behind annotations end values notes
    no_value notes_wrote low notes_low =
    let read = notes_read strict limit inner begun (a_field held front None)
    (within begun (field_read held front)) front.name.span.end annotations end notes (λ n at. refl)
    notes_wrote notes_low in record {
      last = read.last;
      leads = read.leads;
      at_semicolon = λ number own.
          plain_ends limit number begun held front annotations end read.last own read.edge;
    }
field_rest strict limit inner law begun held front default behind annotations end values notes
    (a_value mark tree tokens m wrote) not_annotated low notes_low =
    let read = law begun held front tree tokens wrote low in record {
      last = read.last;
      leads = by_sort (within begun (expression (in_field_default held front) wanted [])) equals
          (ap sort_of m.is) tt (λ number. refl) refl (way_on read.last read.leads stay);
      at_semicolon = read.at_semicolon;
    }
field_rest strict limit inner law begun held front default behind annotations end values notes
    (a_value mark tree tokens m wrote)
    (annotations_tokens one two list own three four o w several_wrote t f) low notes_low =
    let read = law begun held front tree tokens wrote low in record {
      last = within begun (annotated (a_field held front (Some tree)) list four.end);
      leads = by_sort (within begun (expression (in_field_default held front) wanted [])) equals
          (ap sort_of m.is) tt (λ number. refl) refl
          (way_on read.last read.leads
          (way_on (within begun (first_annotation (a_field held front (Some tree))))
          (read.at_brackets one two o w)
          (inner begun (a_field held front (Some tree)) list own three four several_wrote t f
          notes_low)));
      at_semicolon = λ number here. refl;
    }

fields_law : (strict : Bool) (limit : ℕ) → InnerLaw strict limit → FieldValueLaw strict limit →
    (begun : Begun) (named : Named) (annotations : Option (List Annotation)) →
    EachLaw strict limit (FieldWrote strict) parameter_height
    (λ done end. within begun (fields_read (struct_of named annotations done)))
fields_law strict limit inner law begun named held_notes done before one tokens
    (field_tokens _ _ mark (parameter_tokens frequency at ty word text default behind annotations
    end fronts types values notes f t n v a) m) low =
    let held = struct_of named held_notes done in
    let front = front_from (head_of at frequency) ty (ident_at text (place word)) in
    let rest = field_rest strict limit inner law begun held front default behind annotations end
    values notes v a (omega (arith, low)) (omega (arith, low)) in
    way_on rest.last
    (subst (λ list. Way strict limit (within begun (fields_read held)) list rest.last)
    (append_assoc fronts (types ++ word ∷ []) (values ++ notes)
    ∙ ap (λ list. fronts ++ list) (append_assoc types (word ∷ []) (values ++ notes)))
    (way_on (within begun (field_read held front))
    (field_front_reads strict limit begun held frequency at ty fronts types word text f t n)
    rest.leads))
    (by_sort (within begun (fields_read (struct_of named held_notes (done ++ one ∷ [])))) semicolon
    (ap sort_of m.is) tt (λ number. rest.at_semicolon number (place mark)) refl stay)

pub fields_reads : (strict : Bool) (limit : ℕ) → InnerLaw strict limit →
    FieldValueLaw strict limit → (begun : Begun) (annotations : Option (List Annotation))
    (fields : List Parameter) (tokens : List Token) → EachWrote (FieldWrote strict) fields tokens →
    highest parameter_height fields ≤ limit → (named : Named) →
    Way strict limit (within begun (fields_read (struct_of named annotations []))) tokens
    (within begun (fields_read (struct_of named annotations fields)))
fields_reads strict limit inner law begun annotations fields tokens wrote low named =
    each_reads strict limit (FieldWrote strict) parameter_height
    (λ done end. within begun (fields_read (struct_of named annotations done)))
    (fields_law strict limit inner law begun named annotations) [] 0 fields tokens wrote low

-- a declaration that is read ends where its tokens do
pub ends_there : (strict : Bool) (limit : ℕ) (begun : Begun) (state : State) (end : ℕ)
    (one : Declaration) (tokens : List Token) → DeclarationWrote strict one tokens →
    Way strict limit state tokens (with_declaration begun one (declaration_span one).end) →
    Way strict limit state tokens (with_declaration begun one (last_end end tokens))
ends_there strict limit begun state end one tokens wrote way =
    subst (λ n. Way strict limit state tokens (with_declaration begun one n))
    (sym (declaration_ends strict one tokens wrote end)) way
