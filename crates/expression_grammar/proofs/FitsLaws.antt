-- The machine keeps what it keeps, and what it reads is levelled and not too high.
use Rattle.std.proofs.Common.{◌≡◌, subst, arith, ℕ, ◌≤◌, Bool, List, []}
use Rattle.mdl_lexer.specs.declared.token.Kind.{Kind}
use Rattle.mdl_lexer.specs.declared.token.Token.{Token}
use Rattle.mdl_syntax.specs.declared.names.Span.{Span}
use Rattle.mdl_syntax.specs.Trees.{Tree}
use Rattle.mdl_syntax.specs.Heights.{height}
use Rattle.mdl_syntax.specs.Levelled.{Levelled}
use Rattle.expression_grammar.specs.inside.Sorts.{IsOf}
use Rattle.expression_grammar.specs.inside.Fits.{Fits, ModeSuits}
use Rattle.expression_grammar.specs.inside.Leads.{Leads, here, next, Ends}
use Rattle.expression_grammar.specs.inside.Machine.{Frame, Mode, Sort, left_out, goes, mode_step}
use Rattle.expression_grammar.specs.inside.Machine.{sort_step, step, sort_of, from_to, wanted, complete}
use Rattle.expression_grammar.specs.inside.Machine.{part_wanted, part_read, word_read, bracketed, sized}
use Rattle.expression_grammar.specs.inside.Machine.{sized_closed, unsized_closed, first_argument}
use Rattle.expression_grammar.specs.inside.Machine.{argument_wanted, identifier_read, colon_wanted}
use Rattle.expression_grammar.specs.inside.Machine.{first_element, field_wanted, let_begun, head_wanted}
use Rattle.expression_grammar.specs.inside.Machine.{type_wanted, type_bracketed, type_sized}
use Rattle.expression_grammar.specs.inside.Machine.{deferred_wanted, deferred_read, deferred_closed}
use Rattle.expression_grammar.specs.inside.Machine.{name_wanted, equals_wanted, next_wanted, in_wanted}
use Rattle.expression_grammar.proofs.SortLaws.{is_of_sort}
use Rattle.expression_grammar.proofs.TakenLaws.{taken_goes}
use Rattle.expression_grammar.proofs.KeptLaws.{AllKept, all_kept, StepFits}
use Rattle.expression_grammar.proofs.CompleteFits.{complete_fits, finish_fits}
use Rattle.expression_grammar.proofs.OperandFits.{wanted_fits, used_fits, part_fits, part_wanted_fits}
use Rattle.expression_grammar.proofs.OperandFits.{bracketed_fits, sized_fits, sized_closed_fits}
use Rattle.expression_grammar.proofs.OperandFits.{unsized_closed_fits, argument_fits, first_argument_fits}
use Rattle.expression_grammar.proofs.OperandFits.{identifier_fits, colon_wanted_fits, first_element_fits}
use Rattle.expression_grammar.proofs.OperandFits.{field_fits}
use Rattle.expression_grammar.proofs.LetFits.{type_fits, head_fits, let_begun_fits, type_bracketed_fits}
use Rattle.expression_grammar.proofs.LetFits.{type_sized_fits, deferred_wanted_fits, deferred_read_fits}
use Rattle.expression_grammar.proofs.LetFits.{deferred_closed_fits, name_wanted_fits, equals_fits}
use Rattle.expression_grammar.proofs.LetFits.{next_fits, in_fits}

pub mode_fits : (limit : ℕ) (mode : Mode) (frames : List Frame) (sort : Sort)
    (place : Span) (word : Kind) → IsOf sort word → AllKept limit frames →
    ModeSuits limit mode frames → StepFits limit (mode_step limit mode frames sort place)
mode_fits limit wanted frames sort place word of all one =
    wanted_fits limit frames sort place word of (λ room. all) one.0
mode_fits limit (complete tree) frames sort place word of all one =
    complete_fits limit frames tree sort place word of all one
mode_fits limit (part_wanted purpose path) frames sort place word of all one =
    part_wanted_fits limit purpose path frames sort place all one
mode_fits limit (part_read purpose path) frames sort place word of all one =
    part_fits limit purpose path frames sort place word of all one
mode_fits limit (word_read purpose name) frames sort place word of all one =
    used_fits limit purpose name frames sort place word of all one.0 one.1
mode_fits limit (bracketed name) frames sort place word of all one =
    bracketed_fits limit name frames sort place word of all one
mode_fits limit (sized name count at) frames sort place word of all one =
    sized_fits limit name count at frames sort place word of all one
mode_fits limit (sized_closed name count at end) frames sort place word of all one =
    sized_closed_fits limit name count at end frames sort place word of all one
mode_fits limit (unsized_closed name) frames sort place word of all one =
    unsized_closed_fits limit name frames sort all one
mode_fits limit first_argument frames sort place word of all one =
    first_argument_fits limit frames sort place word of all one
mode_fits limit argument_wanted frames sort place word of all one =
    argument_fits limit frames sort place word of all one.0
mode_fits limit (identifier_read ident) frames sort place word of all one =
    identifier_fits limit ident frames sort place word of all one
mode_fits limit (colon_wanted ident) frames sort place word of all one =
    colon_wanted_fits limit ident frames sort all one
mode_fits limit first_element frames sort place word of all one =
    first_element_fits limit frames sort place word of all one
mode_fits limit (field_wanted tree) frames sort place word of all one =
    field_fits limit tree frames sort place all one
mode_fits limit (let_begun at) frames sort place word of all one =
    let_begun_fits limit at frames sort place word of all one
mode_fits limit head_wanted frames sort place word of all one =
    head_fits limit frames sort place word of all one
mode_fits limit (type_wanted head) frames sort place word of all one =
    type_fits limit head frames sort place word of all one
mode_fits limit (type_bracketed head name) frames sort place word of all one =
    type_bracketed_fits limit head name frames sort all one
mode_fits limit (type_sized head name count) frames sort place word of all one =
    type_sized_fits limit head name count frames sort place all one
mode_fits limit (deferred_wanted head name) frames sort place word of all one =
    deferred_wanted_fits limit head name frames sort place all one
mode_fits limit (deferred_read head name ident) frames sort place word of all one =
    deferred_read_fits limit head name ident frames sort all one
mode_fits limit (deferred_closed head name ident) frames sort place word of all one =
    deferred_closed_fits limit head name ident frames sort place all one
mode_fits limit (name_wanted head ty) frames sort place word of all one =
    name_wanted_fits limit head ty frames sort place all one
mode_fits limit (equals_wanted head ty name) frames sort place word of all one =
    equals_fits limit head ty name frames sort all one
mode_fits limit next_wanted frames sort place word of all one =
    next_fits limit frames sort place word of all one
mode_fits limit in_wanted frames sort place word of all one = in_fits limit frames sort all one

sort_fits : (limit : ℕ) (mode : Mode) (frames : List Frame) (sort : Sort)
    (place : Span) (word : Kind) → IsOf sort word → AllKept limit frames →
    ModeSuits limit mode frames → StepFits limit (sort_step limit mode frames sort place)
sort_fits limit mode frames (left_out text) place word of all one = tt
sort_fits limit mode frames sort place word of all one =
    mode_fits limit mode frames sort place word of all one

-- the machine keeps what it keeps
fits_step : (limit : ℕ) (mode : Mode) (frames : List Frame) (token : Token) (then : Mode)
    (below : List Frame) → Fits limit mode frames → step limit mode frames token ≡ goes then below →
    Fits limit then below
fits_step limit mode frames token then below fits is =
    subst (StepFits limit) is (sort_fits limit mode frames (sort_of token.kind)
    (from_to token.at token.end) token.kind (is_of_sort token.kind) (all_kept limit frames fits.all
    fits.below) fits.one)

pub leads_fits : (strict : Bool) (limit : ℕ) (mode : Mode) (frames : List Frame)
    (tokens : List Token) (last : Mode) (last_frames : List Frame) → Fits limit mode frames →
    Leads strict limit mode frames tokens last last_frames → Fits limit last last_frames
leads_fits strict limit mode frames tokens last last_frames fits (here _ _) = fits
leads_fits strict limit mode frames tokens last last_frames fits
    (next _ _ token others then _ then_frames _ goes_on leads) =
    leads_fits strict limit then then_frames others last last_frames
    (fits_step limit mode frames token then then_frames fits (taken_goes strict limit mode frames
    token then then_frames goes_on)) leads

-- the machine begins fit, if there is room for a leaf
pub start_fits : (limit : ℕ) → 1 ≤ limit → Fits limit wanted []
start_fits limit room = record { all = tt; one = (tt, omega (arith, room)); below = tt }

-- what is read whole is levelled, and not too high
pub ends_fits : (strict : Bool) (limit : ℕ) → 1 ≤ limit → (tokens : List Token) (tree : Tree) →
    Ends strict limit wanted [] tokens tree → Levelled tree × (height tree ≤ limit)
ends_fits strict limit room tokens tree ends =
    finish_fits limit ends.last ends.last_frames tree (leads_fits strict limit wanted [] tokens
    ends.last ends.last_frames (start_fits limit room) ends.leads) ends.ends
