-- Steps of expressions that stand in a module by what comes, as the reader takes them.
use Rattle.std.proofs.Common.{◌≡◌, ◌∙◌, sym, ap, refl, arith, ℕ, suc, Bool, true, false, List, []}
use Rattle.std.proofs.Common.{◌+◌, ◌∷◌, ◌++◌, if◌then◌else◌, length, map}
use Rattle.std.proofs.lemmas.List.{map-append}
use Rattle.mdl_syntax.specs.declared.names.Span.{Span}
use Rattle.mdl_syntax.specs.Trees.{Tree, call}
use Rattle.mdl_syntax.specs.declared.declarations.Anno.{Anno}
use Rattle.mdl_syntax.specs.Modules.{annotation_of}
use Rattle.expression_grammar.specs.declared.frame.Frame as held
use Rattle.module_grammar.specs.inside.ModuleMachine.{whole_call, call_step}
use Rattle.module_grammar.specs.inside.ModuleStates.{Begun, Site, expression}
use Rattle.module_grammar.specs.inside.ModuleMachine.{call_outcome, call_goes, may_name}
use Rattle.module_grammar.specs.inside.ModuleStates.{wrong}
use Rattle.module_grammar.specs.inside.ModuleStates.{within, Holder, in_annotation}
use Rattle.module_grammar.specs.inside.ModuleMachine.{first_annotation_step}
use Rattle.expression_grammar.specs.inside.Machine.{Sort, Mode, Frame, complete, wanted, mode_step}
use Rattle.expression_grammar.specs.inside.SortViews.{sort_view}
use Rattle.expression_grammar.specs.declared.sort.Sort as words
use Rattle.expression_grammar.specs.declared.sort.Sort.TheVariants as sorts
use Rattle.expression_grammar.specs.inside.Views.{IsNoCall, stack_of}
use Rattle.expression_grammar.proofs.StackLaws.{stack_of-length}

-- A tree that is no call.

pub no_call : (begun : Begun) (site : Site) (tree : Tree) → IsNoCall tree →
    whole_call begun site tree ≡ expression site (complete tree) []
no_call begun site (call name arguments span) is = absurd is
no_call begun site _ is = refl

-- The first token of a call, and others.

inside : (limit : ℕ) (begun : Begun) (site : Site) (mode : Mode) (frames : List Frame) (sort : Sort)
    (place : Span) → (length frames ≡ 0 → ⊥) →
    call_step limit begun site mode frames sort place
    ≡ call_outcome begun site (mode_step (suc limit) mode frames sort place)
inside limit begun site mode [] sort place some = absurd (some refl)
inside limit begun site mode (frame ∷ frames) sort place some = refl

one_more : (limit : ℕ) → suc limit ≡ limit + 1
one_more limit = omega arith

pub call_inside : (limit : ℕ) (begun : Begun) (site : Site) (mode : Mode) (frames : List held.Frame)
    (sort : Sort) (place : Span) → (length frames ≡ 0 → ⊥) →
    call_step limit begun site mode (stack_of frames) sort place
    ≡ call_outcome begun site (mode_step (limit + 1) mode (stack_of frames) sort place)
call_inside limit begun site mode frames sort place some =
    inside limit begun site mode (stack_of frames) sort place
    (λ none. some (sym (stack_of-length frames) ∙ none))
    ∙ ap (λ room. call_outcome begun site (mode_step room mode (stack_of frames) sort place))
    (one_more limit)

outside : (limit : ℕ) (begun : Begun) (site : Site) (mode : Mode) (frames : List Frame) (sort : Sort)
    (place : Span) → length frames ≡ 0 →
    call_step limit begun site mode frames sort place
    ≡ (if may_name mode sort then call_outcome begun site (mode_step (suc limit) mode frames sort place)
    else wrong)
outside limit begun site mode [] sort place none = refl
outside limit begun site mode (frame ∷ frames) sort place none = absurd (omega (arith, none))

begins : (limit : ℕ) (begun : Begun) (site : Site) (mode : Mode) (frames : List held.Frame)
    (sort : Sort) (place : Span) (test : Bool) → length frames ≡ 0 → may_name mode sort ≡ test →
    call_step limit begun site mode (stack_of frames) sort place
    ≡ (if test
    then call_outcome begun site (mode_step (limit + 1) mode (stack_of frames) sort place) else wrong)
begins limit begun site mode frames sort place test none is =
    outside limit begun site mode (stack_of frames) sort place (stack_of-length frames ∙ none)
    ∙ ap (λ (named : Bool). if named
    then call_outcome begun site (mode_step (suc limit) mode (stack_of frames) sort place)
    else wrong) is
    ∙ ap (λ room. if test
    then call_outcome begun site (mode_step room mode (stack_of frames) sort place) else wrong)
    (one_more limit)

pub call_begins : (limit : ℕ) (begun : Begun) (site : Site) (mode : Mode) (frames : List held.Frame)
    (sort : Sort) (place : Span) → length frames ≡ 0 → may_name mode sort ≡ true →
    call_step limit begun site mode (stack_of frames) sort place
    ≡ call_outcome begun site (mode_step (limit + 1) mode (stack_of frames) sort place)
call_begins limit begun site mode frames sort place none is =
    begins limit begun site mode frames sort place true none is

pub no_call_begins : (limit : ℕ) (begun : Begun) (site : Site) (mode : Mode) (frames : List held.Frame)
    (sort : Sort) (place : Span) → length frames ≡ 0 → may_name mode sort ≡ false →
    call_step limit begun site mode (stack_of frames) sort place ≡ wrong
no_call_begins limit begun site mode frames sort place none is =
    begins limit begun site mode frames sort place false none is

-- the first token of the first annotation

pub first_otherwise : (limit : ℕ) (begun : Begun) (holder : Holder) (word : words.Sort) (place : Span) →
    (word ≡ sorts.ClosingBracket → ⊥) →
    first_annotation_step limit begun holder (sort_view word) place
    ≡ call_step limit begun (in_annotation holder []) wanted [] (sort_view word) place
first_otherwise limit begun holder sorts.ClosingBracket place other = absurd (other refl)
first_otherwise limit begun holder _ place other = refl

-- Behind a token of a call.

goes_inside : (begun : Begun) (site : Site) (tree : Tree) (frames : List Frame) → (length frames ≡ 0 → ⊥) →
    call_goes begun site (complete tree) frames ≡ within begun (expression site (complete tree) frames)
goes_inside begun site tree [] some = absurd (some refl)
goes_inside begun site tree (frame ∷ frames) some = refl

none_left : (frames : List Frame) → length frames ≡ 0 → frames ≡ []
none_left [] none = refl
none_left (frame ∷ frames) none = absurd (omega (arith, none))

pub no_frames : (frames : List held.Frame) → length frames ≡ 0 → stack_of frames ≡ []
no_frames frames none = none_left (stack_of frames) (stack_of-length frames ∙ none)

pub longer_annotations : (annotations : List Anno) (one : Anno) →
    map annotation_of (annotations ++ one ∷ []) ≡ map annotation_of annotations ++ annotation_of one ∷ []
longer_annotations annotations one = map-append annotation_of annotations (one ∷ [])
