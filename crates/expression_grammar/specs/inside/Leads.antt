-- How tokens lead the machine from one state to another.
use Rattle.std.specs.Prelude.{◌≡◌, ℕ, Bool, List, [], ◌∷◌, ◌++◌, length}
use Rattle.mdl_lexer.specs.declared.token.Token.{Token}
use Rattle.mdl_syntax.specs.Trees.{Tree}
use Rattle.expression_grammar.specs.inside.Machine.{Mode, Frame, wanted, goes, bad, deep, is_left_out, taken, finish}
use Rattle.expression_grammar.specs.inside.Machine.{finished, ends_badly, ends_deep, Run, read_as, bad_at, deep_at}
use Rattle.expression_grammar.specs.inside.Machine.{left_out_at}
use Rattle.expression_grammar.specs.Readings.{Reading, a_tree, bad_syntax, too_deep, left_out}

pub data Leads (strict : Bool) (limit : ℕ)
    : Mode → List Frame → List Token → Mode → List Frame → Type 0 where
  here : (mode : Mode) (frames : List Frame) → Leads strict limit mode frames [] mode frames
  next : (mode : Mode) (frames : List Frame) (token : Token) (tokens : List Token)
      (then last : Mode) (then_frames last_frames : List Frame) →
      taken strict limit mode frames token ≡ goes then then_frames →
      Leads strict limit then then_frames tokens last last_frames →
      Leads strict limit mode frames (token ∷ tokens) last last_frames

-- the tokens end a whole expression that is so begun
pub record Ends (strict : Bool) (limit : ℕ) (mode : Mode) (frames : List Frame) (tokens : List Token) (tree : Tree)
    : Type 0 where
  pub last : Mode
  pub last_frames : List Frame
  pub leads : Leads strict limit mode frames tokens last last_frames
  pub ends : finish limit last last_frames ≡ finished tree

-- what a run over the tokens comes to, and why
pub data Outcome (strict : Bool) (limit : ℕ) : List Token → Run → Type 0 where
  reads : (tokens : List Token) (tree : Tree) → Ends strict limit wanted [] tokens tree →
      Outcome strict limit tokens (read_as tree)
  is_bad : (before rest : List Token) (token : Token) (mode : Mode) (frames : List Frame) →
      Leads strict limit wanted [] before mode frames → taken strict limit mode frames token ≡ bad →
      Outcome strict limit (before ++ token ∷ rest) (bad_at (length before))
  is_deep : (before rest : List Token) (token : Token) (mode : Mode) (frames : List Frame) →
      Leads strict limit wanted [] before mode frames → taken strict limit mode frames token ≡ deep →
      Outcome strict limit (before ++ token ∷ rest) (deep_at (length before))
  leaves_out : (before rest : List Token) (token : Token) (mode : Mode) (frames : List Frame) (text : List ℕ) →
      Leads strict limit wanted [] before mode frames →
      taken strict limit mode frames token ≡ is_left_out text →
      Outcome strict limit (before ++ token ∷ rest) (left_out_at (length before) text)
  is_cut_off : (tokens : List Token) (mode : Mode) (frames : List Frame) →
      Leads strict limit wanted [] tokens mode frames → finish limit mode frames ≡ ends_badly →
      Outcome strict limit tokens (bad_at (length tokens))
  is_deep_whole : (tokens : List Token) (mode : Mode) (frames : List Frame) →
      Leads strict limit wanted [] tokens mode frames → finish limit mode frames ≡ ends_deep →
      Outcome strict limit tokens (deep_at (length tokens))

-- what a run says of the tokens
abbrev pub reading_of : Run → Reading
reading_of (read_as tree) = a_tree tree
reading_of (bad_at at) = bad_syntax at
reading_of (deep_at at) = too_deep at
reading_of (left_out_at at text) = left_out at text
