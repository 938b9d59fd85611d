-- A state holds the tokens that lead to it, and a tree stands for those that end it.
use Rattle.std.proofs.Common.{sym, subst, ℕ, Bool, List, [], ◌∷◌, ◌++◌}
use Rattle.std.proofs.lemmas.List.{append_assoc, append-nil}
use Rattle.mdl_lexer.specs.declared.token.Token.{Token}
use Rattle.mdl_syntax.specs.Trees.{Tree}
use Rattle.expression_grammar.specs.inside.Machine.{Frame, Mode, Sort, sort_of}
use Rattle.expression_grammar.specs.inside.Machine.{mode_step, sort_step, step, left_out}
use Rattle.expression_grammar.specs.inside.Machine.{wanted, part_wanted, part_read, word_read}
use Rattle.expression_grammar.specs.inside.Machine.{let_begun, head_wanted, type_wanted, type_bracketed}
use Rattle.expression_grammar.specs.inside.Machine.{type_sized, name_wanted, equals_wanted, next_wanted}
use Rattle.expression_grammar.specs.inside.Machine.{in_wanted}
use Rattle.expression_grammar.specs.inside.Machine.{deferred_wanted, deferred_read, deferred_closed}
use Rattle.expression_grammar.specs.inside.Machine.{in_type}
use Rattle.expression_grammar.specs.inside.Leads.{Leads, here, next, Ends}
use Rattle.expression_grammar.specs.inside.Stands.{Stands}
use Rattle.expression_grammar.specs.inside.Sorts.{IsOf}
use Rattle.expression_grammar.specs.inside.Sound.{Holds, place, is_wanted, nothing}
use Rattle.expression_grammar.proofs.HoldLaws.{HoldsAt}
use Rattle.expression_grammar.proofs.SortLaws.{is_of_sort}
use Rattle.expression_grammar.proofs.TakenLaws.{taken_goes}
use Rattle.expression_grammar.proofs.CompleteLaws.{finish_sound}
use Rattle.expression_grammar.proofs.OperandLaws.{operand_keeps}
use Rattle.expression_grammar.proofs.LetLaws.{let_keeps}

pub by_mode : (limit : ℕ) (mode : Mode) (frames : List Frame) (tokens : List Token) (sort : Sort)
    (token : Token) → IsOf sort token.kind → Holds mode frames tokens →
    HoldsAt (mode_step limit mode frames sort (place token)) (tokens ++ token ∷ [])
by_mode limit (part_wanted purpose path) frames tokens sort token is holds =
    let_keeps limit (part_wanted purpose path) frames tokens sort token tt is holds
by_mode limit (part_read (in_type head) path) frames tokens sort token is holds =
    let_keeps limit (part_read (in_type head) path) frames tokens sort token tt is holds
by_mode limit (word_read (in_type head) name) frames tokens sort token is holds =
    let_keeps limit (word_read (in_type head) name) frames tokens sort token tt is holds
by_mode limit (let_begun at) frames tokens sort token is holds =
    let_keeps limit (let_begun at) frames tokens sort token tt is holds
by_mode limit head_wanted frames tokens sort token is holds =
    let_keeps limit head_wanted frames tokens sort token tt is holds
by_mode limit (type_wanted head) frames tokens sort token is holds =
    let_keeps limit (type_wanted head) frames tokens sort token tt is holds
by_mode limit (type_bracketed head name) frames tokens sort token is holds =
    let_keeps limit (type_bracketed head name) frames tokens sort token tt is holds
by_mode limit (type_sized head name value) frames tokens sort token is holds =
    let_keeps limit (type_sized head name value) frames tokens sort token tt is holds
by_mode limit (deferred_wanted head name) frames tokens sort token is holds =
    let_keeps limit (deferred_wanted head name) frames tokens sort token tt is holds
by_mode limit (deferred_read head name ident) frames tokens sort token is holds =
    let_keeps limit (deferred_read head name ident) frames tokens sort token tt is holds
by_mode limit (deferred_closed head name ident) frames tokens sort token is holds =
    let_keeps limit (deferred_closed head name ident) frames tokens sort token tt is holds
by_mode limit (name_wanted head ty) frames tokens sort token is holds =
    let_keeps limit (name_wanted head ty) frames tokens sort token tt is holds
by_mode limit (equals_wanted head ty name) frames tokens sort token is holds =
    let_keeps limit (equals_wanted head ty name) frames tokens sort token tt is holds
by_mode limit next_wanted frames tokens sort token is holds =
    let_keeps limit next_wanted frames tokens sort token tt is holds
by_mode limit in_wanted frames tokens sort token is holds =
    let_keeps limit in_wanted frames tokens sort token tt is holds
by_mode limit mode frames tokens sort token is holds =
    operand_keeps limit mode frames tokens sort token is tt holds

after_sort : (limit : ℕ) (mode : Mode) (frames : List Frame) (tokens : List Token) (sort : Sort)
    (token : Token) → HoldsAt (mode_step limit mode frames sort (place token)) tokens →
    HoldsAt (sort_step limit mode frames sort (place token)) tokens
after_sort limit mode frames tokens (left_out text) token holds = tt
after_sort limit mode frames tokens sort token holds = holds

-- what the machine goes on to holds again
sound_step : (limit : ℕ) (mode : Mode) (frames : List Frame) (tokens : List Token) (token : Token) →
    Holds mode frames tokens → HoldsAt (step limit mode frames token) (tokens ++ token ∷ [])
sound_step limit mode frames tokens token holds =
    let sort = sort_of token.kind in
    after_sort limit mode frames (tokens ++ token ∷ []) sort token (by_mode limit mode frames tokens
    sort token (is_of_sort token.kind) holds)

-- where tokens lead to a state, it holds them behind those that the first state holds
leads_sound : (strict : Bool) (limit : ℕ) (mode : Mode) (frames : List Frame)
    (before tokens : List Token) (last : Mode) (last_frames : List Frame) →
    Holds mode frames before → Leads strict limit mode frames tokens last last_frames →
    Holds last last_frames (before ++ tokens)
leads_sound strict limit _ _ before _ _ _ holds (here mode frames) =
    subst (Holds mode frames) (sym (append-nil before)) holds
leads_sound strict limit _ _ before _ _ _ holds
    (next mode frames token tokens then last then_frames last_frames is leads) =
    subst (Holds last last_frames) (append_assoc before (token ∷ []) tokens)
    (leads_sound strict limit then then_frames (before ++ token ∷ []) tokens last last_frames
    (subst (λ made. HoldsAt made (before ++ token ∷ [])) (taken_goes strict limit mode frames token
    then then_frames is) (sound_step limit mode frames before token holds)) leads)

pub start_leads : (strict : Bool) (limit : ℕ) (tokens : List Token) (last : Mode)
    (last_frames : List Frame) → Leads strict limit wanted [] tokens last last_frames →
    Holds last last_frames tokens
start_leads strict limit tokens last last_frames leads =
    leads_sound strict limit wanted [] [] tokens last last_frames (is_wanted [] [] nothing) leads

-- the tree that the tokens end stands for them
pub ends_sound : (strict : Bool) (limit : ℕ) (tokens : List Token) (tree : Tree) →
    Ends strict limit wanted [] tokens tree → Stands tree tokens
ends_sound strict limit tokens tree whole =
    finish_sound limit whole.last whole.last_frames tokens tree (start_leads strict limit tokens
    whole.last whole.last_frames whole.leads) whole.ends
