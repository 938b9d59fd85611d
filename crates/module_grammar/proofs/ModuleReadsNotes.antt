-- Annotations in their brackets, once the calls in them are read.
use Rattle.std.proofs.Common.{◌≡◌, ap, refl, ℕ, ◌≤◌, Bool, List, [], ◌∷◌, ◌++◌, codes, Option, Some}
use Rattle.std.proofs.Common.{None}
use Rattle.mdl_lexer.specs.declared.token.Token.{Token}
use Rattle.mdl_syntax.specs.declared.names.Span.{Span}
use Rattle.mdl_syntax.specs.Modules.{Annotation}
use Rattle.mdl_syntax.specs.AcceptedModules.{highest, annotation_height, annotations_height}
use Rattle.expression_grammar.specs.inside.Machine.{sort_of, opening_bracket}
use Rattle.module_grammar.specs.inside.ModuleMachine.{state_step}
use Rattle.module_grammar.specs.inside.ModuleStates.{State, on, within, Begun, Holder}
use Rattle.module_grammar.specs.inside.ModuleStates.{annotations_begun, first_annotation, annotated}
use Rattle.expression_grammar.specs.inside.Sound.{IsMark, place}
use Rattle.module_grammar.specs.inside.WroteModules.{SeveralWrote, AnnotationWrote, AnnotationsWrote}
use Rattle.module_grammar.specs.inside.WroteModules.{not_annotated, annotations_tokens}
use Rattle.module_grammar.proofs.ModuleReadsParts.{Way, stay, by_sort}

-- behind `[[`, annotations that are low enough are read with the brackets that close them
abbrev pub InnerLaw : Bool → ℕ → Type 0
InnerLaw strict limit =
    (begun : Begun) (holder : Holder) (annotations : List Annotation) (tokens : List Token)
    (three four : Token) → SeveralWrote (AnnotationWrote strict) annotations tokens →
    IsMark three (codes "]") → IsMark four (codes "]") →
    highest annotation_height annotations ≤ limit →
    Way strict limit (within begun (first_annotation holder)) (tokens ++ three ∷ four ∷ [])
    (within begun (annotated holder annotations four.end))

-- the state without annotations, or the one behind them
pub data NotesEdge (begun : Begun) (holder : Holder) (state : State) (before : ℕ)
    : Option (List Annotation) → ℕ → State → Type 0 where
  unnoted : NotesEdge begun holder state before None before state
  noted : (annotations : List Annotation) (end : ℕ) → NotesEdge begun holder state before
      (Some annotations) end (within begun (annotated holder annotations end))

pub record NotesRead (strict : Bool) (limit : ℕ) (begun : Begun) (holder : Holder) (state : State)
    (before : ℕ) (annotations : Option (List Annotation)) (end : ℕ) (tokens : List Token) : Type 0
  where
    pub last : State
    pub leads : Way strict limit state tokens last
    pub edge : NotesEdge begun holder state before annotations end last

-- in the state, annotations begin with `[`
abbrev pub TakesNotes : ℕ → Begun → Holder → State → Type 0
TakesNotes limit begun holder state =
    (number : ℕ) (at : Span) → state_step limit number state opening_bracket at
    ≡ on (within begun (annotations_begun holder))

pub notes_read : (strict : Bool) (limit : ℕ) → InnerLaw strict limit → (begun : Begun)
    (holder : Holder) (state : State) (before : ℕ) (annotations : Option (List Annotation))
    (end : ℕ) (tokens : List Token) → TakesNotes limit begun holder state →
    AnnotationsWrote strict before annotations end tokens →
    annotations_height annotations ≤ limit →
    NotesRead strict limit begun holder state before annotations end tokens
notes_read strict limit inner begun holder state before annotations end tokens takes not_annotated
    low = record { last = state; leads = stay; edge = unnoted }
notes_read strict limit inner begun holder state before annotations end tokens takes
    (annotations_tokens one two held own three four o w several_wrote t f) low = record {
      last = within begun (annotated holder held four.end);
      leads = by_sort (within begun (annotations_begun holder)) opening_bracket (ap sort_of o.is) tt
          (λ number. takes number (place one)) refl
          (by_sort (within begun (first_annotation holder)) opening_bracket (ap sort_of w.is) tt
          (λ number. refl) refl
          (inner begun holder held own three four several_wrote t f low));
      edge = noted held four.end;
    }
