-- What ends a head, and from where a prototype is read last.
use Rattle.std.proofs.Common.{◌≡◌, ◌⊎◌, inl, inr, ◌∙◌, sym, ap, subst, refl, ℕ, Bool, List, [], ◌∷◌}
use Rattle.std.proofs.Common.{◌++◌, Option, Some, None, codes, true, false, if◌then◌else◌}
use Rattle.mdl_lexer.specs.declared.token.Token.{Token}
use Rattle.mdl_syntax.specs.declared.names.Span.{Span}
use Rattle.mdl_syntax.specs.declared.types.Freq.{Freq}
use Rattle.mdl_syntax.specs.Modules.{Declaration, Annotation, Parameter}
use Rattle.module_grammar.specs.ModuleFaults.{IsPrototype}
use Rattle.expression_grammar.specs.inside.Machine.{Sort, sort_of, from_to, semicolon, equals}
use Rattle.expression_grammar.specs.inside.Machine.{opening_brace, wanted, Mode, Frame, Step, Finish, goes}
use Rattle.expression_grammar.specs.inside.Machine.{bad, deep, is_left_out, left_out, finished, ends_badly}
use Rattle.expression_grammar.specs.inside.Machine.{ends_deep, mode_step, finish, opening_bracket}
use Rattle.module_grammar.specs.inside.ModuleMachine.{expression_outcome}
use Rattle.module_grammar.specs.inside.ModuleStates.{Site, Outcome, opened, wrong}
use Rattle.module_grammar.specs.inside.ModuleMachine.{unless_wrong, index_outcome, annotations_behind}
use Rattle.module_grammar.specs.inside.ModuleMachine.{is_bracket}
use Rattle.module_grammar.specs.inside.ModuleStates.{Begun, Fronted, Position, State, on}
use Rattle.module_grammar.specs.inside.ModuleStates.{within, item_wanted, function_read, annotated}
use Rattle.module_grammar.specs.inside.ModuleStates.{a_function, statement_body, with_declaration}
use Rattle.module_grammar.specs.inside.ModuleStates.{prototype_from, expression, in_function_body}
use Rattle.module_grammar.specs.inside.ModuleMachine.{module_sort_step, module_step}
use Rattle.module_grammar.specs.inside.ModuleHeads.{size_in, IsHead, IsItem}
use Rattle.expression_grammar.specs.inside.Sorts.{IsOf}
use Rattle.expression_grammar.specs.inside.Sound.{IsMark}
use Rattle.expression_grammar.proofs.SortLaws.{is_of_sort}
use Rattle.expression_grammar.proofs.KindLaws.{not_empty_append}
use Rattle.module_grammar.proofs.ModuleHeadKinds.{MayStand, Change, Changes, Ends, stays_so}
use Rattle.module_grammar.proofs.ModuleHeadKinds.{ends_there, defers_first, head_ended, none_added}
use Rattle.module_grammar.proofs.ModuleHeadKinds.{other_added, declarations_in}
use Rattle.module_grammar.proofs.ModuleHeadLaws.{module_changes, step_change}

-- With `;` the head is a prototype.

EndsAsPrototype : ℕ → ℕ → State → Sort → Span → Type 0
EndsAsPrototype limit number state sort place =
    (begun : Begun) × (one : Declaration) × (end : ℕ) × IsPrototype one
    × (module_sort_step limit number state sort place ≡ on (with_declaration begun one end))

ends_prototype : (limit number : ℕ) (state : State) (place : Span) → IsHead state →
    EndsAsPrototype limit number state semicolon place
unfolding EndsAsPrototype
ends_prototype limit number (within begun (function_read fronted parameters None)) place head =
    (begun, prototype_from fronted parameters None None place.end, place.end, tt, refl)
ends_prototype limit number (within begun (function_read fronted parameters (Some frequency))) place
    head =
    (begun, prototype_from fronted parameters (Some frequency) None place.end, place.end, tt, refl)
ends_prototype limit number (within begun (annotated (a_function fronted parameters frequency)
    annotations end))
    place head = (
      begun,
      prototype_from fronted parameters frequency (Some annotations) place.end,
      place.end,
      tt,
      refl,
    )
ends_prototype limit number state place head = absurd head

pub head_ends : (limit number : ℕ) (state : State) (token : Token) → IsHead state →
    IsMark token (codes ";") → (begun : Begun) × (one : Declaration) × (end : ℕ) × IsPrototype one
    × (module_step limit number state token ≡ on (with_declaration begun one end))
unfolding EndsAsPrototype
head_ends limit number state token head mark =
    subst (λ s. EndsAsPrototype limit number state s (from_to token.at token.end))
    (sym (ap sort_of mark.is))
    (ends_prototype limit number state (from_to token.at token.end) head)

-- With `=` its body begins.

BeginsBody : ℕ → ℕ → State → Sort → Span → Type 0
BeginsBody limit number state sort place =
    (begun : Begun) × (fronted : Fronted) × (parameters : List Parameter) ×
    (frequency : Option Freq)
    × (annotations : Option (List Annotation)) × (fronted.deferred ≡ size_in state)
    × (module_sort_step limit number state sort place
    ≡ on (within begun (expression (in_function_body fronted parameters frequency annotations)
    wanted [])))

begins_body : (limit number : ℕ) (state : State) (place : Span) → IsHead state →
    BeginsBody limit number state equals place
unfolding BeginsBody
begins_body limit number (within begun (function_read fronted parameters None)) place head =
    (begun, fronted, parameters, None, None, refl, refl)
begins_body limit number (within begun (function_read fronted parameters (Some frequency))) place
    head =
    (begun, fronted, parameters, Some frequency, None, refl, refl)
begins_body limit number (within begun (annotated (a_function fronted parameters frequency)
    annotations end)) place
    head =
    (begun, fronted, parameters, frequency, Some annotations, refl, refl)
begins_body limit number state place head = absurd head

pub head_body : (limit number : ℕ) (state : State) (token : Token) → IsHead state → IsMark token
    (codes "=") →
    (begun : Begun) × (fronted : Fronted) × (parameters : List Parameter) ×
    (frequency : Option Freq)
    × (annotations : Option (List Annotation)) × (fronted.deferred ≡ size_in state)
    × (module_step limit number state token
    ≡ on (within begun (expression (in_function_body fronted parameters frequency annotations)
    wanted [])))
unfolding BeginsBody
head_body limit number state token head mark =
    subst (λ s. BeginsBody limit number state s (from_to token.at token.end))
    (sym (ap sort_of mark.is))
    (begins_body limit number state (from_to token.at token.end) head)

-- Behind `[` behind an expression, no step ends an item or begins statements.

abbrev GoesOn : Outcome → Type 0
GoesOn (on state) = IsItem state → ⊥
GoesOn statement_body = ⊥
GoesOn _ = Unit {0}

if_goes : (test : Bool) (one other : Outcome) → GoesOn one → GoesOn other →
    GoesOn (if test then one else other)
if_goes true one other holds others = holds
if_goes false one other holds others = others

expression_goes : (begun : Begun) (site : Site) (made : Step) → GoesOn
    (expression_outcome begun site made)
expression_goes begun site (goes mode frames) = λ is. is
expression_goes begun site bad = tt
expression_goes begun site deep = tt
expression_goes begun site (is_left_out text) = tt

unless_wrong_goes : (made : Outcome) → GoesOn (unless_wrong made)
unless_wrong_goes wrong = tt
unless_wrong_goes made = tt

index_goes : (limit : ℕ) (begun : Begun) (site : Site) (sort : Sort) (place : Span) (made : Step) →
    GoesOn (index_outcome limit begun site sort place made)
index_goes limit begun site sort place (goes mode below) =
    expression_goes begun site (mode_step limit mode below sort place)
index_goes limit begun site sort place bad = tt
index_goes limit begun site sort place deep =
    unless_wrong_goes (expression_outcome begun site (mode_step limit wanted [] sort place))
index_goes limit begun site sort place (is_left_out text) = tt

behind_goes : (begun : Begun) (site : Site) (end : Finish) → GoesOn
    (annotations_behind begun site end)
behind_goes begun site (finished tree) = λ is. is
behind_goes begun site ends_badly = tt
behind_goes begun site ends_deep = tt

opened_goes : (limit number : ℕ) (begun : Begun) (site : Site) (mode : Mode) (frames : List Frame)
    (bracket : Span)
    (sort : Sort) (place : Span) →
    GoesOn (module_sort_step limit number (within begun (opened site mode frames bracket)) sort
    place)
opened_goes limit number begun site mode frames bracket (left_out text) place = tt
opened_goes limit number begun site mode frames bracket sort place =
    if_goes (is_bracket sort) (annotations_behind begun site (finish limit mode frames))
    (index_outcome limit begun site sort place (mode_step limit mode frames opening_bracket
    bracket))
    (behind_goes begun site (finish limit mode frames))
    (index_goes limit begun site sort place (mode_step limit mode frames opening_bracket bracket))

may_or_goes : (limit number : ℕ) (state : State) (token : Token) →
    MayStand state ⊎ GoesOn (module_step limit number state token)
may_or_goes limit number (within begun (opened site mode frames bracket)) token =
    inr (opened_goes limit number begun site mode frames bracket (sort_of token.kind)
    (from_to token.at token.end))
may_or_goes limit number state token = inl tt

-- With `{` a body of statements begins, and only there.

begins_statements : (limit number : ℕ) (state : State) (place : Span) → IsHead state →
    module_sort_step limit number state opening_brace place ≡ statement_body
begins_statements limit number (within begun (function_read fronted parameters None)) place head =
    refl
begins_statements limit number (within begun (function_read fronted parameters (Some frequency)))
    place head = refl
begins_statements limit number
    (within begun (annotated (a_function fronted parameters frequency) annotations end)) place
    head = refl
begins_statements limit number state place head = absurd head

pub head_statement : (limit number : ℕ) (state : State) (token : Token) → IsHead state →
    IsMark token (codes "{") → module_step limit number state token ≡ statement_body
head_statement limit number state token head mark =
    subst (λ s. module_sort_step limit number state s (from_to token.at token.end) ≡ statement_body)
    (sym (ap sort_of mark.is)) (begins_statements limit number state (from_to token.at token.end)
    head)

pub statement_head : (limit number : ℕ) (state : State) (token : Token) →
    module_step limit number state token ≡ statement_body → IsHead state × IsMark token (codes "{")
statement_head limit number state token is = by (may_or_goes limit number state token)
  where
    by : MayStand state ⊎ GoesOn (module_step limit number state token) →
        IsHead state × IsMark token (codes "{")
    by (inl may) =
        let (head, brace) = subst (Changes number state (sort_of token.kind)) is
        (module_changes limit number state token may) in (
          head,
          record {
            is = subst (λ (s : Sort). IsOf s token.kind) brace (is_of_sort token.kind);
          },
        )
    by (inr on_it_goes) = absurd (subst GoesOn is on_it_goes)

-- A prototype that is the last declaration was read by the step, or before it.

last_of : Declaration → List Declaration → Declaration
last_of other [] = other
last_of other (one ∷ list) = last_of one list

last_is : (other one : Declaration) (list : List Declaration) → last_of other (list ++ one ∷ []) ≡
    one
unfolding last_of
last_is other one [] = refl
last_is other one (first ∷ list) = last_is first one list

same_last : (a b : Declaration) (one other : List Declaration) → one ++ a ∷ [] ≡ other ++ b ∷ [] → a
    ≡ b
same_last a b one other is = sym (last_is a a one) ∙ (ap (last_of a) is ∙ last_is a b other)

own_begun : (state : State) (declarations before : List Declaration) (one : Declaration) →
    declarations ≡ declarations_in state → declarations ≡ before ++ one ∷ [] →
    (own : Begun) × (position : Position) × (state ≡ within own position) ×
    (declarations ≡ own.declarations)
own_begun (within own position) declarations before one same are = (own, position, refl, same)
own_begun state declarations before one same are = absurd
    (not_empty_append before one [] (sym are ∙ same))

pub head_before : (limit number : ℕ) (state : State) (token : Token) (begun : Begun) (early : Bool)
    →
    module_step limit number state token ≡ on (within begun (item_wanted early)) →
    (before : List Declaration) (one : Declaration) → begun.declarations ≡ before ++ one ∷ [] →
    IsPrototype one → IsHead state ⊎ ((own : Begun) × (position : Position) ×
    (state ≡ within own position)
    × (begun.declarations ≡ own.declarations))
head_before limit number state token begun early is before one are prototype =
    whether (may_or_goes limit number state token)
  where
    at_end : Ends state (within begun (item_wanted early)) → IsHead state ⊎ ((own : Begun)
        × (position : Position) × (state ≡ within own position) ×
        (begun.declarations ≡ own.declarations))
    at_end (head_ended head) = inl head
    at_end (none_added same) = inr (own_begun state begun.declarations before one same are)
    at_end (other_added other added none) =
        absurd (none (subst IsPrototype (same_last one other before (declarations_in state)
        (sym are ∙ added))
        prototype))

    by : Change number state (within begun (item_wanted early)) → IsHead state ⊎ ((own : Begun)
        × (position : Position) × (state ≡ within own position) ×
        (begun.declarations ≡ own.declarations))
    by (stays_so same note inner) = absurd (inner tt)
    by (ends_there item end) = at_end end
    by (defers_first none found note front) = absurd front

    whether : MayStand state ⊎ GoesOn (module_step limit number state token) → IsHead state ⊎
        ((own : Begun)
        × (position : Position) × (state ≡ within own position) ×
        (begun.declarations ≡ own.declarations))
    whether (inl may) = by (step_change limit number state (within begun (item_wanted early)) token
        may is)
    whether (inr on_it_goes) = absurd (subst GoesOn is on_it_goes tt)
