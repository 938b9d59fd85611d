-- Within the arguments of a call, the machine keeps that call as the outermost form.
use Rattle.std.proofs.Common.{◌≡◌, ◌==◌, refl, ℕ, suc, Bool, true, false, List, []}
use Rattle.std.proofs.Common.{◌∷◌, codes, None, if◌then◌else◌}
use Rattle.std.proofs.lemmas.Bool.{false≢true}
use Rattle.mdl_syntax.specs.declared.names.Span.{Span}
use Rattle.mdl_syntax.specs.declared.names.Name.{Name}
use Rattle.mdl_syntax.specs.declared.names.Ident.{Ident}
use Rattle.mdl_syntax.specs.Heights.{height}
use Rattle.mdl_syntax.specs.Trees.{Tree, literal}
use Rattle.mdl_syntax.specs.Levels.{mark_number}
use Rattle.expression_grammar.specs.inside.Machine.{Sort, Mode, Frame, Step, Path, Purpose, Head}
use Rattle.expression_grammar.specs.inside.Machine.{goes, bad, deep, is_left_out, identifier, integer}
use Rattle.expression_grammar.specs.inside.Machine.{other_literal, type_word, unary_operator}
use Rattle.expression_grammar.specs.inside.Machine.{either_operator}
use Rattle.expression_grammar.specs.inside.Machine.{binary_operator, question, colon, double_colon}
use Rattle.expression_grammar.specs.inside.Machine.{opening, closing, opening_bracket, closing_bracket}
use Rattle.expression_grammar.specs.inside.Machine.{opening_brace, closing_brace, comma, semicolon}
use Rattle.expression_grammar.specs.inside.Machine.{dot, equals, let_word, in_word, frequency_word}
use Rattle.expression_grammar.specs.inside.Machine.{in_parentheses, behind_unary, behind_infix}
use Rattle.expression_grammar.specs.inside.Machine.{behind_question}
use Rattle.expression_grammar.specs.inside.Machine.{behind_colon, in_index, in_arguments, in_elements}
use Rattle.expression_grammar.specs.inside.Machine.{in_let, in_initializer, in_expression}
use Rattle.expression_grammar.specs.inside.Machine.{in_type, wanted, complete, part_wanted, part_read}
use Rattle.expression_grammar.specs.inside.Machine.{word_read, bracketed, sized, sized_closed}
use Rattle.expression_grammar.specs.inside.Machine.{unsized_closed}
use Rattle.expression_grammar.specs.inside.Machine.{first_argument, argument_wanted, identifier_read}
use Rattle.expression_grammar.specs.inside.Machine.{colon_wanted, first_element, field_wanted, let_begun}
use Rattle.expression_grammar.specs.inside.Machine.{head_wanted, type_wanted, type_bracketed, type_sized}
use Rattle.expression_grammar.specs.inside.Machine.{deferred_wanted, deferred_read, deferred_closed}
use Rattle.expression_grammar.specs.inside.Machine.{name_wanted, equals_wanted, next_wanted, in_wanted}
use Rattle.expression_grammar.specs.inside.Machine.{is_tight, ended, reduced, asked, within, unless_bad}
use Rattle.expression_grammar.specs.inside.Machine.{wanted_step, around, infix_step, question_step}
use Rattle.expression_grammar.specs.inside.Machine.{colon_step, closing_step, bracket_step, comma_step}
use Rattle.expression_grammar.specs.inside.Machine.{semicolon_step, complete_step, name_step, part_step}
use Rattle.expression_grammar.specs.inside.Machine.{used_step}
use Rattle.expression_grammar.specs.inside.Machine.{argument_step, first_argument_step, labelled_step}
use Rattle.expression_grammar.specs.inside.Machine.{first_element_step, type_step}
use Rattle.expression_grammar.specs.inside.Machine.{head_step}
use Rattle.expression_grammar.specs.inside.Machine.{first_part, path_name, name_tree, integer_tree}
use Rattle.expression_grammar.specs.inside.Machine.{indexed_tree, type_name_step}
use Rattle.expression_grammar.specs.inside.Machine.{word_name, absolute_path, ident_at}
use Rattle.module_grammar.specs.inside.ModuleHolds.{IsArguments, Outermost, OfCall}
use Rattle.module_grammar.proofs.ModuleCallLaws.{CallStep, FormsKeep, within_form}

-- frames with the arguments of a call outermost
abbrev Bottomed : List Frame → Type 0
Bottomed [] = ⊥
Bottomed (frame ∷ frames) = Outermost frame frames

push : (frame : Frame) (frames : List Frame) → Bottomed frames → Outermost frame frames
push frame [] form = absurd form
push frame (next ∷ frames) form = form

pop : (frame : Frame) (frames : List Frame) → (IsArguments frame → ⊥) → Outermost frame frames →
    Bottomed frames
pop frame [] none form = none form
pop frame (next ∷ frames) none form = form

any_mode : (mode : Mode) (frames : List Frame) → Bottomed frames → OfCall mode frames
any_mode mode [] form = absurd form
any_mode mode (frame ∷ frames) form = form

goes_on : (frame : Frame) (frames : List Frame) (mode : Mode) → (IsArguments frame → ⊥) →
    Outermost frame frames → OfCall mode frames
goes_on frame frames mode none form = any_mode mode frames (pop frame frames none form)

swapped : (frame other : Frame) (frames : List Frame) → (IsArguments frame → ⊥) →
    Outermost frame frames → Outermost other frames
swapped frame other frames none form = push other frames (pop frame frames none form)

-- Reduction.

pop_tight : (grip : ℕ) (frame : Frame) (frames : List Frame) → is_tight grip frame ≡ true →
    Outermost frame frames → Bottomed frames
pop_tight grip frame (next ∷ frames) is form = form
pop_tight grip (in_arguments name arguments with_name label) [] is form = absurd (false≢true is)
pop_tight grip frame [] is form = absurd form

reduced_form : (grip : ℕ) (tree : Tree) (frames : List Frame) → Bottomed frames →
    Bottomed ((reduced grip tree frames).1)
reduced_form grip tree [] form = absurd form
reduced_form grip tree (frame ∷ frames) form =
    by (λ is. reduced_form grip (ended frame tree) frames (pop_tight grip frame frames is form))
    (is_tight grip frame) refl
  where
    by : (is_tight grip frame ≡ true → Bottomed ((reduced grip (ended frame tree) frames).1)) →
        (test : Bool) → is_tight grip frame ≡ test →
        Bottomed ((if test then reduced grip (ended frame tree) frames else (tree, frame ∷ frames)).1)
    by below true is = below is
    by below false is = form

-- Steps behind an expression.

around_form : (limit : ℕ) (frame : Frame) (tree : Tree) (frames : List Frame) → Bottomed frames →
    CallStep (around limit frame tree frames)
around_form limit frame tree frames form =
    within_form limit frames (suc (height tree)) (goes wanted (frame ∷ frames))
    (push frame frames form)

infix_form : (limit op level : ℕ) (pair : Tree × List Frame) → Bottomed pair.1 →
    CallStep (infix_step limit op level pair)
infix_form limit op level (tree, frames) form =
    around_form limit (behind_infix op level tree) tree frames form

question_form : (limit : ℕ) (pair : Tree × List Frame) → Bottomed pair.1 →
    CallStep (question_step limit pair)
question_form limit (tree, frames) form =
    around_form limit (behind_question tree) tree frames form

colon_form : (pair : Tree × List Frame) → Bottomed pair.1 → CallStep (colon_step pair)
colon_form (tree, behind_question test ∷ frames) form =
    swapped (behind_question test) (behind_colon test tree) frames (λ is. is) form
colon_form _ form = tt

closing_form : (end : ℕ) (pair : Tree × List Frame) → Bottomed pair.1 →
    CallStep (closing_step end pair)
closing_form end (tree, in_parentheses at ∷ []) form = absurd form
closing_form end (tree, in_parentheses at ∷ next ∷ frames) form = form
closing_form end (tree, in_arguments name arguments with_name label ∷ []) form = tt
closing_form end (tree, in_arguments name arguments with_name label ∷ next ∷ frames) form = form
closing_form end (tree, in_elements name size trees ∷ []) form = absurd form
closing_form end (tree, in_elements name size trees ∷ next ∷ frames) form = form
closing_form end _ form = tt

bracket_form : (end : ℕ) (pair : Tree × List Frame) → Bottomed pair.1 →
    CallStep (bracket_step end pair)
bracket_form end (tree, in_index of ∷ []) form = absurd form
bracket_form end (tree, in_index of ∷ next ∷ frames) form = form
bracket_form end _ form = tt

comma_form : (pair : Tree × List Frame) → Bottomed pair.1 → CallStep (comma_step pair)
comma_form (tree, in_arguments name arguments with_name label ∷ []) form = tt
comma_form (tree, in_arguments name arguments with_name label ∷ next ∷ frames) form = form
comma_form (tree, in_elements name size trees ∷ []) form = absurd form
comma_form (tree, in_elements name size trees ∷ next ∷ frames) form = form
comma_form _ form = tt

semicolon_form : (end : ℕ) (pair : Tree × List Frame) → Bottomed pair.1 →
    CallStep (semicolon_step end pair)
semicolon_form end (tree, in_initializer held head ty name ∷ []) form = absurd form
semicolon_form end (tree, in_initializer held head ty name ∷ next ∷ frames) form = form
semicolon_form end _ form = tt

complete_form : (limit : ℕ) (tree : Tree) (frames : List Frame) (sort : Sort) (span : Span) →
    Bottomed frames → CallStep (complete_step limit tree frames sort span)
complete_form limit tree frames (either_operator op level) span form =
    infix_form limit op level (reduced level tree frames) (reduced_form level tree frames form)
complete_form limit tree frames (binary_operator op level) span form =
    infix_form limit op level (reduced level tree frames) (reduced_form level tree frames form)
complete_form limit tree frames question span form =
    question_form limit (reduced 2 tree frames) (reduced_form 2 tree frames form)
complete_form limit tree frames dot span form =
    within_form limit frames (suc (height tree)) (goes (field_wanted tree) frames)
    (any_mode (field_wanted tree) frames form)
complete_form limit tree frames opening_bracket span form =
    around_form limit (in_index tree) tree frames form
complete_form limit tree frames colon span form =
    colon_form (reduced 0 tree frames) (reduced_form 0 tree frames form)
complete_form limit tree frames closing span form =
    closing_form span.end (reduced 0 tree frames) (reduced_form 0 tree frames form)
complete_form limit tree frames closing_bracket span form =
    bracket_form span.end (reduced 0 tree frames) (reduced_form 0 tree frames form)
complete_form limit tree frames comma span form =
    comma_form (reduced 0 tree frames) (reduced_form 0 tree frames form)
complete_form limit tree frames semicolon span form =
    semicolon_form span.end (reduced 0 tree frames) (reduced_form 0 tree frames form)
complete_form limit tree frames _ span form = tt

unless_form : (limit : ℕ) (frames : List Frame) (need : ℕ) (step : Step) → CallStep step →
    CallStep (unless_bad limit frames need step)
unless_form limit frames need (goes mode below) form =
    within_form limit frames need (goes mode below) form
unless_form limit frames need bad form = tt
unless_form limit frames need deep form = within_form limit frames need deep tt
unless_form limit frames need (is_left_out text) form =
    within_form limit frames need (is_left_out text) tt

chosen_form : (test : Bool) (step : Step) → CallStep step → CallStep (if test then step else bad)
chosen_form true step form = form
chosen_form false step form = tt

-- Steps where an expression is wanted.

wanted_form : (limit : ℕ) (frame : Frame) (frames : List Frame) (sort : Sort) (span : Span) →
    Outermost frame frames → CallStep (wanted_step limit (frame ∷ frames) sort span)
wanted_form limit frame frames (identifier text) span form =
    within_form limit (frame ∷ frames) 1 (goes (part_read in_expression (first_part text span))
    (frame ∷ frames)) form
wanted_form limit frame frames (integer value) span form =
    within_form limit (frame ∷ frames) 1 (goes (complete (integer_tree value span))
    (frame ∷ frames)) form
wanted_form limit frame frames (other_literal own) span form =
    within_form limit (frame ∷ frames) 1 (goes (complete (literal own span)) (frame ∷ frames)) form
wanted_form limit frame frames (type_word number) span form =
    within_form limit (frame ∷ frames) 1 (goes (word_read in_expression (word_name number span))
    (frame ∷ frames)) form
wanted_form limit frame frames double_colon span form =
    within_form limit (frame ∷ frames) 1 (goes (part_wanted in_expression (absolute_path span))
    (frame ∷ frames)) form
wanted_form limit frame frames opening span form =
    within_form limit (frame ∷ frames) 2 (goes wanted (in_parentheses span.at ∷ frame ∷ frames))
    form
wanted_form limit frame frames (unary_operator op) span form =
    within_form limit (frame ∷ frames) 2 (goes wanted (behind_unary op span.at ∷ frame ∷ frames))
    form
wanted_form limit frame frames (either_operator op level) span form =
    within_form limit (frame ∷ frames) 2 (goes wanted (behind_unary op span.at ∷ frame ∷ frames))
    form
wanted_form limit frame frames let_word span form =
    chosen_form (asked (frame ∷ frames) == 0)
    (within limit (frame ∷ frames) 2 (goes (let_begun span.at) (frame ∷ frames)))
    (within_form limit (frame ∷ frames) 2 (goes (let_begun span.at) (frame ∷ frames)) form)
wanted_form limit frame frames _ span form = tt

name_form : (limit : ℕ) (name : Name) (frame : Frame) (frames : List Frame) (sort : Sort)
    (span : Span) → Outermost frame frames →
    CallStep (name_step limit name (frame ∷ frames) sort span)
name_form limit name frame frames opening span form = form
name_form limit name frame frames opening_bracket span form = form
name_form limit name frame frames sort span form =
    complete_form limit (name_tree name) (frame ∷ frames) sort span form

type_name_form : (head : Head) (name : Name) (frame : Frame) (frames : List Frame) (sort : Sort)
    (span : Span) → Outermost frame frames →
    CallStep (type_name_step head name (frame ∷ frames) sort span)
type_name_form head name frame frames opening_bracket span form = form
type_name_form head name frame frames (identifier text) span form = form
type_name_form head name frame frames sort span form = tt

used_form : (limit : ℕ) (purpose : Purpose) (name : Name) (frame : Frame) (frames : List Frame)
    (sort : Sort) (span : Span) → Outermost frame frames →
    CallStep (used_step limit purpose name (frame ∷ frames) sort span)
used_form limit in_expression name frame frames sort span form =
    name_form limit name frame frames sort span form
used_form limit (in_type head) name frame frames sort span form =
    type_name_form head name frame frames sort span form

part_form : (limit : ℕ) (purpose : Purpose) (path : Path) (frame : Frame) (frames : List Frame)
    (sort : Sort) (span : Span) → Outermost frame frames →
    CallStep (part_step limit purpose path (frame ∷ frames) sort span)
part_form limit purpose path frame frames double_colon span form = form
part_form limit purpose path frame frames sort span form =
    used_form limit purpose (path_name path) frame frames sort span form

type_form : (head : Head) (frame : Frame) (frames : List Frame) (sort : Sort) (span : Span) →
    Outermost frame frames → CallStep (type_step head (frame ∷ frames) sort span)
type_form head frame frames double_colon span form = form
type_form head frame frames (identifier text) span form = form
type_form head frame frames (type_word number) span form = form
type_form head frame frames sort span form = tt

head_form : (frame : Frame) (frames : List Frame) (sort : Sort) (span : Span) →
    Outermost frame frames → CallStep (head_step (frame ∷ frames) sort span)
head_form frame frames (frequency_word freq) span form = form
head_form frame frames sort span form =
    type_form (record { at = span.at; frequency = None }) frame frames sort span form

argument_form : (limit : ℕ) (frame : Frame) (frames : List Frame) (sort : Sort) (span : Span) →
    Outermost frame frames → CallStep (argument_step limit (frame ∷ frames) sort span)
argument_form limit (in_arguments name arguments true label) frames (identifier text) span form =
    within_form limit (in_arguments name arguments true label ∷ frames) 1
    (goes (colon_wanted (ident_at text span)) (in_arguments name arguments true label ∷ frames)) form
argument_form limit (in_arguments name arguments true label) frames sort span form = tt
argument_form limit frame frames (identifier text) span form =
    within_form limit (frame ∷ frames) 1 (goes (identifier_read (ident_at text span))
    (frame ∷ frames)) form
argument_form limit frame frames sort span form = wanted_form limit frame frames sort span form

first_argument_form : (limit : ℕ) (frame : Frame) (frames : List Frame) (sort : Sort)
    (span : Span) → Outermost frame frames →
    CallStep (first_argument_step limit (frame ∷ frames) sort span)
first_argument_form limit (in_arguments name arguments with_name label) [] closing span form = tt
first_argument_form limit (in_arguments name arguments with_name label) (next ∷ frames) closing span
    form = form
first_argument_form limit frame frames sort span form =
    argument_form limit frame frames sort span form

labelled_form : (label : Ident) (frame : Frame) (frames : List Frame) → Outermost frame frames →
    CallStep (labelled_step label (frame ∷ frames))
labelled_form label (in_arguments name arguments with_name own) [] form = tt
labelled_form label (in_arguments name arguments with_name own) (next ∷ frames) form = form
labelled_form label frame frames form = tt

first_element_form : (limit : ℕ) (frame : Frame) (frames : List Frame) (sort : Sort)
    (span : Span) → Outermost frame frames →
    CallStep (first_element_step limit (frame ∷ frames) sort span)
first_element_form limit (in_elements name size trees) [] closing span form = absurd form
first_element_form limit (in_elements name size trees) (next ∷ frames) closing span form = form
first_element_form limit frame frames sort span form =
    wanted_form limit frame frames sort span form

pub forms_keep : FormsKeep
forms_keep limit wanted frame frames sort span form = wanted_form limit frame frames sort span form
forms_keep limit (complete tree) frame frames sort span form =
    complete_form limit tree (frame ∷ frames) sort span form
forms_keep limit (part_wanted purpose path) frame frames (identifier text) span form = form
forms_keep limit (part_wanted purpose path) frame frames sort span form = tt
forms_keep limit (part_read purpose path) frame frames sort span form =
    part_form limit purpose path frame frames sort span form
forms_keep limit (word_read purpose name) frame frames sort span form =
    used_form limit purpose name frame frames sort span form
forms_keep limit (bracketed name) frame frames closing_bracket span form = form
forms_keep limit (bracketed name) frame frames (integer value) span form = form
forms_keep limit (bracketed name) frame frames sort span form =
    wanted_form limit (in_index (name_tree name)) (frame ∷ frames) sort span form
forms_keep limit (sized name value at) frame frames closing_bracket span form = form
forms_keep limit (sized name value at) frame frames sort span form =
    complete_form limit (integer_tree value at) (in_index (name_tree name) ∷ frame ∷ frames) sort
    span form
forms_keep limit (sized_closed name value at end) frame frames opening span form = form
forms_keep limit (sized_closed name value at end) frame frames sort span form =
    unless_form limit (frame ∷ frames) 2
    (complete_step limit (indexed_tree name value at end) (frame ∷ frames) sort span)
    (complete_form limit (indexed_tree name value at end) (frame ∷ frames) sort span form)
forms_keep limit (unsized_closed name) frame frames opening span form = form
forms_keep limit (unsized_closed name) frame frames sort span form = tt
forms_keep limit first_argument frame frames sort span form =
    first_argument_form limit frame frames sort span form
forms_keep limit argument_wanted frame frames sort span form =
    argument_form limit frame frames sort span form
forms_keep limit (identifier_read ident) frame frames colon span form =
    labelled_form ident frame frames form
forms_keep limit (identifier_read ident) frame frames sort span form =
    part_form limit in_expression (first_part ident.text ident.span) frame frames sort span form
forms_keep limit (colon_wanted ident) frame frames colon span form =
    labelled_form ident frame frames form
forms_keep limit (colon_wanted ident) frame frames sort span form = tt
forms_keep limit first_element frame frames sort span form =
    first_element_form limit frame frames sort span form
forms_keep limit (field_wanted tree) frame frames (identifier text) span form = form
forms_keep limit (field_wanted tree) frame frames sort span form = tt
forms_keep limit (let_begun at) frame frames opening_brace span form = form
forms_keep limit (let_begun at) frame frames sort span form =
    head_form (in_let (record { at = at; braces = false; initializers = [] })) (frame ∷ frames) sort
    span form
forms_keep limit head_wanted frame frames sort span form = head_form frame frames sort span form
forms_keep limit (type_wanted head) frame frames sort span form =
    type_form head frame frames sort span form
forms_keep limit (type_bracketed head name) frame frames (integer value) span form = form
forms_keep limit (type_bracketed head name) frame frames (binary_operator op level) span form =
    chosen_form (op == mark_number (codes "<")) (goes (deferred_wanted head name) (frame ∷ frames))
    form
forms_keep limit (type_bracketed head name) frame frames sort span form = tt
forms_keep limit (type_sized head name value) frame frames closing_bracket span form = form
forms_keep limit (type_sized head name value) frame frames sort span form = tt
forms_keep limit (deferred_wanted head name) frame frames (identifier text) span form = form
forms_keep limit (deferred_wanted head name) frame frames sort span form = tt
forms_keep limit (deferred_read head name ident) frame frames (binary_operator op level) span form =
    chosen_form (op == mark_number (codes ">")) (goes (deferred_closed head name ident)
    (frame ∷ frames)) form
forms_keep limit (deferred_read head name ident) frame frames sort span form = tt
forms_keep limit (deferred_closed head name ident) frame frames closing_bracket span form = form
forms_keep limit (deferred_closed head name ident) frame frames sort span form = tt
forms_keep limit (name_wanted head ty) frame frames (identifier text) span form = form
forms_keep limit (name_wanted head ty) frame frames sort span form = tt
forms_keep limit (equals_wanted head ty name) (in_let held) [] equals span form = absurd form
forms_keep limit (equals_wanted head ty name) (in_let held) (next ∷ frames) equals span form = form
forms_keep limit (equals_wanted head ty name) frame frames sort span form = tt
forms_keep limit next_wanted frame frames closing_brace span form = form
forms_keep limit next_wanted frame frames sort span form = head_form frame frames sort span form
forms_keep limit in_wanted (in_let held) [] in_word span form = absurd form
forms_keep limit in_wanted (in_let held) (next ∷ frames) in_word span form = form
forms_keep limit in_wanted frame frames sort span form = tt
