-- Behind each operand that fits the machine can be led to a whole tree.
use Rattle.std.proofs.Common.{◌≡◌, ◌∙◌, ap, refl, ℕ, suc, ◌+◌, ◌≤◌, Bool, true, false, List, []}
use Rattle.std.proofs.Common.{◌∷◌}
use Rattle.std.proofs.Common.{codes, length, if◌then◌else◌, arith}
use Rattle.std.specs.Prelude.{nat_le, max}
use Rattle.std.proofs.lemmas.Bool.{cond-true, le-leb}
use Rattle.std.proofs.Math.Nat.{le-max_left}
use Rattle.mdl_lexer.specs.declared.token.Kind.{Kind}
use Rattle.mdl_lexer.specs.declared.token.Kind.TheVariants as kind
use Rattle.mdl_lexer.specs.declared.token.Token.{Token}
use Rattle.mdl_lexer.specs.Kinds.{mark_word, name_word}
use Rattle.mdl_syntax.specs.declared.names.Ident.{Ident}
use Rattle.mdl_syntax.specs.declared.types.TypeTree.{TypeTree}
use Rattle.mdl_syntax.specs.Trees.{Tree}
use Rattle.mdl_syntax.specs.Trees.{initializers_of}
use Rattle.mdl_syntax.specs.Heights.{height, initializers_height}
use Rattle.expression_grammar.specs.inside.Machine.{Frame, Mode, Step, Run, Let, Head, goes, deep}
use Rattle.expression_grammar.specs.inside.Machine.{in_parentheses}
use Rattle.expression_grammar.specs.inside.Machine.{behind_unary, behind_infix, behind_question}
use Rattle.expression_grammar.specs.inside.Machine.{behind_colon}
use Rattle.expression_grammar.specs.inside.Machine.{in_index, in_arguments, in_elements, in_let}
use Rattle.expression_grammar.specs.inside.Machine.{in_initializer}
use Rattle.expression_grammar.specs.inside.Machine.{in_body, wanted, complete, next_wanted, in_wanted}
use Rattle.expression_grammar.specs.inside.Machine.{run_from}
use Rattle.expression_grammar.specs.inside.Machine.{run_end, read_as, reduced, ended, step, place_after}
use Rattle.expression_grammar.specs.inside.Machine.{whole}
use Rattle.expression_grammar.specs.inside.Machine.{integer_tree, from_to, colon_step, closing_step}
use Rattle.expression_grammar.specs.inside.Machine.{bracket_step, semicolon_step, longer_let}
use Rattle.expression_grammar.specs.inside.Machine.{allowed, is_deferred}
use Rattle.expression_grammar.specs.inside.Fits.{AllSuit, AllPlain, MayBePlain, initializers_room}
use Rattle.expression_grammar.proofs.TakenLaws.{allowed_goes}
use Rattle.expression_grammar.proofs.HeightLaws.{some_height}
use Rattle.expression_grammar.proofs.KeptLaws.{inner_room}

abbrev token : Kind → Token
token word = record { kind = word; at = 0; end = 0 }

abbrev pub mark : List ℕ → Token
mark text = token (mark_word text)

abbrev pub zero_token : Token
zero_token = token (kind.Int 0)

abbrev pub name_token : Token
name_token = token (kind.Word (codes "x"))

abbrev pub in_token : Token
in_token = token (name_word (codes "in"))

abbrev pub zero_tree : Tree
zero_tree = integer_tree 0 (from_to 0 0)

-- what shuts the frames behind an operand
abbrev pub end_of : List Frame → List Token
end_of [] = []
end_of (in_parentheses at ∷ frames) = mark (codes ")") ∷ end_of frames
end_of (behind_unary op at ∷ frames) = end_of frames
end_of (behind_infix op own left ∷ frames) = end_of frames
end_of (behind_question test ∷ frames) = mark (codes ":") ∷ zero_token ∷ end_of frames
end_of (behind_colon test one ∷ frames) = end_of frames
end_of (in_index of ∷ frames) = mark (codes "]") ∷ end_of frames
end_of (in_arguments name arguments with_name label ∷ frames) = mark (codes ")") ∷ end_of frames
end_of (in_elements name size trees ∷ frames) = mark (codes ")") ∷ end_of frames
end_of (in_let held ∷ frames) = []
end_of (in_initializer held head ty name ∷ frames) =
    mark (codes ";") ∷ (if held.braces then mark (codes "}") ∷ in_token ∷ zero_token ∷ end_of frames
    else in_token ∷ zero_token ∷ end_of frames)
end_of (in_body held ∷ frames) = end_of frames

pub record Reads (limit : ℕ) (mode : Mode) (frames : List Frame) (tokens : List Token) : Type 0
  where
    pub tree : Tree
    pub reads : (strict : Bool) (at : ℕ) →
        run_from strict limit at (goes mode frames) tokens ≡ read_as tree

-- one token, behind which no size is deferred
pub took : {limit : ℕ} {mode : Mode} {frames : List Frame} {next : Token} {tokens : List Token}
    {mode_then : Mode} {frames_then : List Frame} →
    step limit mode frames next ≡ goes mode_then frames_then → is_deferred mode_then ≡ false →
    Reads limit mode_then frames_then tokens → Reads limit mode frames (next ∷ tokens)
took {limit} {mode} {frames} {next} {tokens} {mode_then} {frames_then} same plain r = record {
  tree = r.tree;
  reads = λ strict at. ap (λ s. run_from strict limit (place_after at s) s tokens)
      (ap (allowed strict) same ∙ allowed_goes strict mode_then frames_then plain)
      ∙ r.reads strict (suc at);
}

-- what comes of tokens behind a step
abbrev after : Bool → ℕ → ℕ → List Token → Step → Run
after strict limit at tokens what =
    run_from strict limit (place_after at (allowed strict what)) (allowed strict what) tokens

-- the end doesn't tell states apart that reduce to the same
same_end : (ends : List Frame) (strict : Bool) (limit : ℕ) (one other : Tree) (frames others : List
    Frame) → reduced 0 one frames ≡ reduced 0 other others → (at : ℕ) →
    run_from strict limit at (goes (complete one) frames) (end_of ends) ≡ run_from strict limit at
    (goes (complete other) others) (end_of ends)
same_end [] strict limit one other frames others same at = ap (λ r. run_end at (whole r)) same
same_end (in_parentheses place ∷ ends) strict limit one other frames others same at =
    ap (λ r. after strict limit at (end_of ends) (closing_step 0 r)) same
same_end (behind_unary op place ∷ ends) strict limit one other frames others same at =
    same_end ends strict limit one other frames others same at
same_end (behind_infix op own left ∷ ends) strict limit one other frames others same at =
    same_end ends strict limit one other frames others same at
same_end (behind_question test ∷ ends) strict limit one other frames others same at =
    ap (λ r. after strict limit at (zero_token ∷ end_of ends) (colon_step r)) same
same_end (behind_colon test first ∷ ends) strict limit one other frames others same at =
    same_end ends strict limit one other frames others same at
same_end (in_index of ∷ ends) strict limit one other frames others same at =
    ap (λ r. after strict limit at (end_of ends) (bracket_step 0 r)) same
same_end (in_arguments name arguments with_name label ∷ ends) strict limit one other frames others
    same at =
    ap (λ r. after strict limit at (end_of ends) (closing_step 0 r)) same
same_end (in_elements name size trees ∷ ends) strict limit one other frames others same at =
    ap (λ r. after strict limit at (end_of ends) (closing_step 0 r)) same
same_end (in_let held ∷ ends) strict limit one other frames others same at = ap (λ r. run_end at
    (whole r)) same
same_end (in_initializer held head ty name ∷ ends) strict limit one other frames others same at =
    ap (λ r. after strict limit at (if held.braces then mark (codes "}") ∷ in_token ∷ zero_token ∷
    end_of ends else in_token ∷ zero_token ∷ end_of ends) (semicolon_step 0 r)) same
same_end (in_body held ∷ ends) strict limit one other frames others same at =
    same_end ends strict limit one other frames others same at

pub zero_reads : {limit : ℕ} {frames : List Frame} {tokens : List Token} →
    length frames + 1 ≤ limit → Reads limit (complete zero_tree) frames tokens →
    Reads limit wanted frames (zero_token ∷ tokens)
zero_reads {limit} {frames} room r =
    took (cond-true (nat_le (length frames + 1) limit) (goes (complete zero_tree) frames) deep
    (le-leb (length frames + 1) limit room)) refl r

-- a frame that the end reduces
through : {limit : ℕ} {tree : Tree} {frame : Frame} {frames : List Frame} →
    reduced 0 tree (frame ∷ frames) ≡ reduced 0 (ended frame tree) frames →
    Reads limit (complete (ended frame tree)) frames (end_of frames) →
    Reads limit (complete tree) (frame ∷ frames) (end_of frames)
through {limit} {tree} {frame} {frames} same r = record {
  tree = r.tree;
  reads = λ strict at. same_end frames strict limit tree (ended frame tree) (frame ∷ frames) frames
      same at
      ∙ r.reads strict at;
}

-- each operand before these frames can be led to a whole tree
abbrev pub Shuts : ℕ → List Frame → Type 0
Shuts limit frames = (tree : Tree) → Reads limit (complete tree) frames (end_of frames)

pub in_reads : {limit : ℕ} {held : Let} {frames : List Frame} → suc (length frames) + 1 ≤ limit →
    Shuts limit frames → Reads limit in_wanted (in_let held ∷ frames)
    (in_token ∷ zero_token ∷ end_of frames)
in_reads room shuts = took refl refl (zero_reads room (through refl (shuts _)))

pub next_reads : {limit : ℕ} {held : Let} {frames : List Frame} → suc (length frames) + 1 ≤ limit →
    Shuts limit frames → Reads limit next_wanted (in_let held ∷ frames)
    (mark (codes "}") ∷ in_token ∷ zero_token ∷ end_of frames)
next_reads room shuts = took refl refl (in_reads room shuts)

plain_behind : (braces : Bool) → is_deferred (if braces then next_wanted else in_wanted) ≡ false
plain_behind true = refl
plain_behind false = refl

behind_initializer : (limit : ℕ) (held : Let) (frames : List Frame) →
    suc (length frames) + 1 ≤ limit → Shuts limit frames → (braces : Bool) →
    Reads limit (if braces then next_wanted else in_wanted) (in_let held ∷ frames)
    (if braces then mark (codes "}") ∷ in_token ∷ zero_token ∷ end_of frames else in_token
    ∷ zero_token ∷ end_of frames)
behind_initializer limit held frames room shuts true = next_reads room shuts
behind_initializer limit held frames room shuts false = in_reads room shuts

pub initializer_reads : (limit : ℕ) (held : Let) (head : Head) (ty : TypeTree) (name : Ident)
    (frames : List Frame) → suc (length frames) + 1 ≤ limit → Shuts limit frames →
    Shuts limit (in_initializer held head ty name ∷ frames)
initializer_reads limit held head ty name frames room shuts tree =
    took refl (plain_behind held.braces) (behind_initializer limit
    (longer_let held head ty name tree 0) frames room shuts held.braces)

pub let_room : (limit n : ℕ) (held : Let) → n + initializers_room held ≤ limit → suc n + 1 ≤ limit
let_room limit n held room =
    inner_room n (max 1 (initializers_height (initializers_of held.initializers))) limit
    (le-max_left 1 (initializers_height (initializers_of held.initializers))) room

-- each operand in a state that fits can be led to a whole tree
pub shut : (limit : ℕ) (frames : List Frame) → AllSuit limit frames → AllPlain frames →
    MayBePlain frames → (tree : Tree) → Reads limit (complete tree) frames (end_of frames)
shut limit [] suits below plain tree = record { tree = tree; reads = λ strict at. refl }
shut limit (in_parentheses place ∷ frames) (own, room, suits) (plain, below) here tree =
    took refl refl (shut limit frames suits below plain _)
shut limit (behind_unary op place ∷ frames) (own, room, suits) (plain, below) here tree =
    through refl (shut limit frames suits below plain _)
shut limit (behind_infix op level left ∷ frames) (own, room, suits) (plain, below) here tree =
    through (cond-true (nat_le 0 level) (reduced 0 (ended (behind_infix op level left) tree) frames)
    (tree, behind_infix op level left ∷ frames) (le-leb 0 level (omega arith)))
    (shut limit frames suits below plain _)
shut limit (behind_question test ∷ frames) (own, room, suits) (plain, below) here tree =
    took refl refl (zero_reads (inner_room (length frames) (height test) limit (some_height test)
    room) (through refl (shut limit frames suits below plain _)))
shut limit (behind_colon test one ∷ frames) (own, room, suits) (plain, below) here tree =
    through refl (shut limit frames suits below plain _)
shut limit (in_index of ∷ frames) (own, room, suits) (plain, below) here tree =
    took refl refl (shut limit frames suits below plain _)
shut limit (in_arguments name arguments with_name label ∷ frames) (own, room, suits) (plain, below)
    here tree = took refl refl (shut limit frames suits below plain _)
shut limit (in_elements name size trees ∷ frames) (own, room, suits) (plain, below) here tree =
    took refl refl (shut limit frames suits below plain _)
shut limit (in_let held ∷ frames) suits below here tree = absurd here
shut limit (in_initializer held head ty name ∷ frames) (own, room, suits) (plain, below) here tree =
    initializer_reads limit held head ty name frames (let_room limit (length frames) held room)
    (shut limit frames suits below plain) tree
shut limit (in_body held ∷ frames) (own, room, suits) (plain, below) here tree =
    through refl (shut limit frames suits below plain _)
