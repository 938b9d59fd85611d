-- A call that is begun in a module, of an annotation or a base, can be led to the module's end.
use Rattle.std.proofs.Common.{◌≡◌, ◌∙◌, sym, ap, subst, refl, ℕ, suc, Bool, true, false}
use Rattle.std.proofs.Common.{List, [], ◌∷◌, None, codes, arith}
use Rattle.std.proofs.Common.{if◌then◌else◌}
use Rattle.std.proofs.lemmas.Bool.{false≢true, cond-true, le-leb}
use Rattle.std.specs.Prelude.{nat_le}
use Rattle.mdl_lexer.specs.declared.token.Token.{Token}
use Rattle.mdl_syntax.specs.declared.names.Span.{Span}
use Rattle.mdl_syntax.specs.declared.names.Name.{Name}
use Rattle.mdl_syntax.specs.Trees.{Tree, call}
use Rattle.mdl_syntax.specs.Modules.{Annotation}
use Rattle.expression_grammar.specs.inside.Fits.{Fits}
use Rattle.expression_grammar.specs.inside.Leads.{Leads, here, next}
use Rattle.expression_grammar.specs.inside.Machine.{Sort, sort_of, Mode, Frame, Path, goes, wanted}
use Rattle.expression_grammar.specs.inside.Machine.{complete, part_wanted, part_read, word_read}
use Rattle.expression_grammar.specs.inside.Machine.{sized_closed, first_argument, in_expression}
use Rattle.expression_grammar.specs.inside.Machine.{identifier, opening, closing, first_part}
use Rattle.expression_grammar.specs.inside.Machine.{deep}
use Rattle.expression_grammar.specs.inside.Machine.{in_arguments, indexed_tree, reduced, whole}
use Rattle.expression_grammar.specs.inside.Machine.{unless_bad_end, finish, finished}
use Rattle.expression_grammar.specs.inside.Machine.{is_deferred, name_tree, path_name}
use Rattle.module_grammar.specs.inside.ModuleStates.{Begun, Site, on, within, expression}
use Rattle.module_grammar.specs.inside.ModuleStates.{in_function_body, in_default, in_field_default}
use Rattle.module_grammar.specs.inside.ModuleMachine.{is_call_site}
use Rattle.module_grammar.specs.inside.ModuleStates.{in_annotation, in_base}
use Rattle.module_grammar.specs.inside.ModuleMachine.{state_step, value_step_of, call_step, call_read}
use Rattle.module_grammar.specs.inside.ModuleMachine.{call_goes, call_outcome, permitted_state}
use Rattle.module_grammar.specs.inside.ModuleFits.{OnCall, StandsInCall}
use Rattle.expression_grammar.specs.inside.Sound.{place}
use Rattle.module_grammar.proofs.ModuleCallModes.{InCall, StepInCall, call_mode_step, reduced_on}
use Rattle.module_grammar.proofs.ModuleViableParts.{ModuleViable}
use Rattle.module_grammar.proofs.ModuleViableSites.{IsBodyPlain, site_permitted, led_kept, Stepped}
use Rattle.module_grammar.proofs.ModuleViableSites.{stepped, IsUnfinished}
use Rattle.expression_grammar.proofs.ShutLaws.{mark, name_token}
use Rattle.expression_grammar.proofs.ViableLaws.{viable_strictly}

call_takes : (limit number : ℕ) (begun : Begun) (site : Site) (mode : Mode) (frames : List Frame)
    (sort : Sort) (at : Span) → is_call_site site ≡ true →
    state_step limit number (within begun (expression site mode frames)) sort at
    ≡ call_step limit begun site mode frames sort at
call_takes limit number begun site mode frames sort at is =
    ap (λ test. if test then call_step limit begun site mode frames sort at
    else value_step_of limit begun site mode frames sort at) is

call_plain : (site : Site) → is_call_site site ≡ true → IsBodyPlain site
call_plain (in_function_body fronted parameters frequency annotations) is = absurd (false≢true is)
call_plain (in_default owner parameters front) is = tt
call_plain (in_field_default held front) is = tt
call_plain (in_annotation holder annotations) is = tt
call_plain (in_base fronted annotations) is = tt

read_permitted : (begun : Begun) (site : Site) (one : Annotation) →
    permitted_state (within begun (call_read begun site one))
    ≡ on (within begun (call_read begun site one))
read_permitted begun (in_function_body fronted parameters frequency annotations) one = refl
read_permitted begun (in_default owner parameters front) one = refl
read_permitted begun (in_field_default held front) one = refl
read_permitted begun (in_annotation holder annotations) one = refl
read_permitted begun (in_base fronted annotations) one = refl

-- whatever call is read leads on
abbrev pub CallEnds : Bool → ℕ → Begun → Site → Type 0
CallEnds strict limit begun site =
    (one : Annotation) → ModuleViable strict limit (within begun (call_read begun site one))

-- Its name.

argument_viable : (strict : Bool) (limit : ℕ) (begun : Begun) (site : Site) (name : Name) →
    is_call_site site ≡ true → CallEnds strict limit begun site →
    ModuleViable strict limit
    (within begun (expression site first_argument (in_arguments name [] false None ∷ [])))
argument_viable strict limit begun site name is ends =
    led_kept (mark (codes ")")) tt
    (λ number. call_takes limit number begun site first_argument
    (in_arguments name [] false None ∷ []) closing (place (mark (codes ")"))) is)
    (λ strictly. read_permitted begun site _) (ends _)

path_viable : (strict : Bool) (limit : ℕ) (begun : Begun) (site : Site) (path : Path) →
    is_call_site site ≡ true → CallEnds strict limit begun site →
    ModuleViable strict limit (within begun (expression site (part_read in_expression path) []))
path_viable strict limit begun site path is ends =
    led_kept (mark (codes "(")) tt
    (λ number. call_takes limit number begun site (part_read in_expression path) [] opening
    (place (mark (codes "("))) is)
    (λ strictly. site_permitted begun site first_argument
    (in_arguments (path_name path) [] false None ∷ []) (call_plain site is) refl)
    (argument_viable strict limit begun site (path_name path) is ends)

word_viable : (strict : Bool) (limit : ℕ) (begun : Begun) (site : Site) (name : Name) →
    is_call_site site ≡ true → CallEnds strict limit begun site →
    ModuleViable strict limit (within begun (expression site (word_read in_expression name) []))
word_viable strict limit begun site name is ends =
    led_kept (mark (codes "(")) tt
    (λ number. call_takes limit number begun site (word_read in_expression name) [] opening
    (place (mark (codes "("))) is)
    (λ strictly. site_permitted begun site first_argument
    (in_arguments name [] false None ∷ []) (call_plain site is) refl)
    (argument_viable strict limit begun site name is ends)

part_viable : (strict : Bool) (limit : ℕ) (begun : Begun) (site : Site) (path : Path) →
    is_call_site site ≡ true → CallEnds strict limit begun site →
    ModuleViable strict limit (within begun (expression site (part_wanted in_expression path) []))
part_viable strict limit begun site path is ends =
    led_kept name_token tt
    (λ number. call_takes limit number begun site (part_wanted in_expression path) []
    (identifier (codes "x")) (place name_token) is)
    (λ strictly. site_permitted begun site (part_read in_expression _) [] (call_plain site is) refl)
    (path_viable strict limit begun site _ is ends)

pub start_viable : (strict : Bool) (limit : ℕ) (begun : Begun) (site : Site) →
    is_call_site site ≡ true → CallEnds strict limit begun site →
    ModuleViable strict limit (within begun (expression site wanted []))
start_viable strict limit begun site is ends =
    led_kept name_token tt
    (λ number. call_takes limit number begun site wanted [] (identifier (codes "x"))
    (place name_token) is ∙ ap (call_outcome begun site) (cond-true (nat_le 1 (suc limit))
    (goes (part_read in_expression (first_part (codes "x") (place name_token))) []) deep
    (le-leb 1 (suc limit) (omega arith))))
    (λ strictly. site_permitted begun site (part_read in_expression _) [] (call_plain site is) refl)
    (path_viable strict limit begun site _ is ends)

stands_viable : (strict : Bool) (limit : ℕ) (begun : Begun) (site : Site) (mode : Mode) →
    is_call_site site ≡ true → CallEnds strict limit begun site → StandsInCall mode [] →
    ModuleViable strict limit (within begun (expression site mode []))
stands_viable strict limit begun site wanted is ends stands =
    start_viable strict limit begun site is ends
stands_viable strict limit begun site (part_wanted in_expression path) is ends stands =
    part_viable strict limit begun site path is ends
stands_viable strict limit begun site (part_read in_expression path) is ends stands =
    path_viable strict limit begun site path is ends
stands_viable strict limit begun site (word_read in_expression name) is ends stands =
    word_viable strict limit begun site name is ends
stands_viable strict limit begun site mode is ends stands = absurd stands

-- Its arguments.

whole_unfinished : (pair : Tree × List Frame) → OnCall pair.1 → IsUnfinished (whole pair)
whole_unfinished (tree, []) inside = absurd inside
whole_unfinished (tree, frame ∷ frames) inside = tt

unless_unfinished : (limit : ℕ) (frames : List Frame) (need : ℕ) (pair : Tree × List Frame) →
    OnCall pair.1 → IsUnfinished (unless_bad_end limit frames need (whole pair))
unless_unfinished limit frames need (tree, []) inside = absurd inside
unless_unfinished limit frames need (tree, frame ∷ below) inside = tt

call_unfinished : (limit : ℕ) (mode : Mode) (frames : List Frame) → OnCall frames →
    IsUnfinished (finish limit mode frames)
call_unfinished limit (complete tree) frames inside =
    whole_unfinished (reduced 0 tree frames) (reduced_on 0 tree frames inside)
call_unfinished limit (part_read in_expression path) frames inside =
    whole_unfinished (reduced 0 (name_tree (path_name path)) frames)
    (reduced_on 0 (name_tree (path_name path)) frames inside)
call_unfinished limit (word_read in_expression name) frames inside =
    whole_unfinished (reduced 0 (name_tree name) frames)
    (reduced_on 0 (name_tree name) frames inside)
call_unfinished limit (sized_closed name value own end) frames inside =
    unless_unfinished limit frames 2 (reduced 0 (indexed_tree name value own end) frames)
    (reduced_on 0 (indexed_tree name value own end) frames inside)
call_unfinished limit mode frames inside = tt

goes_same : (begun : Begun) (site : Site) (mode : Mode) (frame : Frame) (frames : List Frame) →
    call_goes begun site mode (frame ∷ frames)
    ≡ within begun (expression site mode (frame ∷ frames))
goes_same begun site (complete tree) frame frames = refl
goes_same begun site mode frame frames = refl

-- the call is whole, or its name stands
none_viable : (strict : Bool) (limit : ℕ) (begun : Begun) (site : Site) (mode : Mode) →
    is_call_site site ≡ true → CallEnds strict limit begun site → InCall mode [] →
    ModuleViable strict limit (call_goes begun site mode [])
none_viable strict limit begun site wanted is ends inside =
    start_viable strict limit begun site is ends
none_viable strict limit begun site (part_wanted in_expression path) is ends inside =
    part_viable strict limit begun site path is ends
none_viable strict limit begun site (part_read in_expression path) is ends inside =
    path_viable strict limit begun site path is ends
none_viable strict limit begun site (word_read in_expression name) is ends inside =
    word_viable strict limit begun site name is ends
none_viable strict limit begun site (complete (call name own span)) is ends inside = ends _
none_viable strict limit begun site mode is ends inside = absurd inside

goes_permitted : (begun : Begun) (site : Site) (mode : Mode) (frames : List Frame) →
    IsBodyPlain site → is_deferred mode ≡ false → InCall mode frames →
    permitted_state (call_goes begun site mode frames) ≡ on (call_goes begun site mode frames)
goes_permitted begun site mode (frame ∷ frames) body plain inside =
    subst (λ state. permitted_state state ≡ on state) (sym (goes_same begun site mode frame frames))
    (site_permitted begun site mode (frame ∷ frames) body plain)
goes_permitted begun site (complete (call name own span)) [] body plain inside =
    read_permitted begun site _
goes_permitted begun site (complete tree) [] body plain inside = absurd inside
goes_permitted begun site mode [] body plain inside = site_permitted begun site mode [] body plain

some_frames : (frame : Frame) (frames : List Frame) → (frame ∷ frames ≡ []) → ⊥
some_frames frame frames is = cc

call_inside : (strict : Bool) (limit : ℕ) (mode later : Mode) (frame : Frame)
    (frames below : List Frame) (token : Token) → OnCall (frame ∷ frames) →
    Stepped strict limit mode (frame ∷ frames) token later below → InCall later below
call_inside strict limit mode later frame frames below token inside one =
    subst StepInCall one.steps
    (call_mode_step limit mode (frame ∷ frames) (sort_of token.kind) (place token) inside
    (λ none. absurd (some_frames frame frames none)))

call_on : (strict : Bool) (limit : ℕ) (begun : Begun) (site : Site) (mode later : Mode)
    (frame : Frame) (frames below : List Frame) (token : Token) → is_call_site site ≡ true →
    Stepped strict (suc limit) mode (frame ∷ frames) token later below → InCall later below →
    ModuleViable strict limit (call_goes begun site later below) →
    ModuleViable strict limit (call_goes begun site mode (frame ∷ frames))
call_on strict limit begun site mode later frame frames below token is one inside rest =
    subst (ModuleViable strict limit) (sym (goes_same begun site mode frame frames))
    (led_kept token one.kept
    (λ number. call_takes limit number begun site mode (frame ∷ frames) (sort_of token.kind)
    (place token) is ∙ ap (call_outcome begun site) one.steps)
    (λ strictly. goes_permitted begun site later below (call_plain site is) (one.plain strictly)
    inside) rest)

call_walk : (strict : Bool) (limit : ℕ) (begun : Begun) (site : Site) → is_call_site site ≡ true →
    CallEnds strict limit begun site → (mode last : Mode) (frames last_frames : List Frame)
    (tokens : List Token) (tree : Tree) → finish (suc limit) last last_frames ≡ finished tree →
    InCall mode frames → Leads strict (suc limit) mode frames tokens last last_frames →
    ModuleViable strict limit (call_goes begun site mode frames)
call_walk strict limit begun site is ends mode last [] last_frames tokens tree end inside leads =
    none_viable strict limit begun site mode is ends inside
call_walk strict limit begun site is ends mode last (frame ∷ frames) last_frames tokens tree end
    inside (here _ _) =
    absurd (subst IsUnfinished end (call_unfinished (suc limit) mode (frame ∷ frames) inside))
call_walk strict limit begun site is ends mode last (frame ∷ frames) last_frames tokens tree end
    inside (next _ _ token more later _ below _ goes_on leads) =
    let one = stepped strict (suc limit) mode (frame ∷ frames) token later below goes_on in
    let within_call = call_inside strict (suc limit) mode later frame frames below token inside one
    in
    call_on strict limit begun site mode later frame frames below token is one within_call
    (call_walk strict limit begun site is ends later last below last_frames more tree end
    within_call leads)

-- a call of an annotation or a base
pub call_site_viable : (strict : Bool) (limit : ℕ) (begun : Begun) (site : Site) (mode : Mode)
    (frames : List Frame) → is_call_site site ≡ true → CallEnds strict limit begun site →
    Fits (suc limit) mode frames → StandsInCall mode frames →
    ModuleViable strict limit (within begun (expression site mode frames))
call_site_viable strict limit begun site mode [] is ends fits stands =
    stands_viable strict limit begun site mode is ends stands
call_site_viable strict limit begun site mode (frame ∷ frames) is ends fits stands =
    let (rest, tree, led) = viable_strictly strict (suc limit) mode (frame ∷ frames) fits in
    subst (ModuleViable strict limit) (goes_same begun site mode frame frames)
    (call_walk strict limit begun site is ends mode led.last (frame ∷ frames) led.last_frames rest
    tree led.ends stands led.leads)
