-- The states behind a tree's tokens act as if the whole tree had just been read.
use Rattle.std.proofs.Common.{◌≡◌, ◌∙◌, ap, refl, arith, ℕ, ◌+◌, ◌≤◌, nat_le, Bool, true, false}
use Rattle.std.proofs.Common.{List, [], ◌∷◌, Option, None, length}
use Rattle.std.proofs.lemmas.Bool.{cond-true, cond-false, le-leb, lt-leb}
use Rattle.mdl_syntax.specs.declared.names.Span.{Span}
use Rattle.mdl_syntax.specs.declared.names.Ident.{Ident}
use Rattle.mdl_syntax.specs.declared.names.Name.{Name}
use Rattle.mdl_syntax.specs.Trees.{Tree, Argument}
use Rattle.mdl_syntax.specs.Levels.{level}
use Rattle.expression_grammar.specs.inside.Machine.{Sort, Mode, Frame, Step, Finish, Path, Purpose, goes}
use Rattle.expression_grammar.specs.inside.Machine.{bad, deep, is_left_out, finished, ends_badly}
use Rattle.expression_grammar.specs.inside.Machine.{ends_deep, identifier, integer, other_literal}
use Rattle.expression_grammar.specs.inside.Machine.{type_word, unary_operator, either_operator}
use Rattle.expression_grammar.specs.inside.Machine.{binary_operator, question, colon, double_colon}
use Rattle.expression_grammar.specs.inside.Machine.{opening, closing, opening_bracket, closing_bracket}
use Rattle.expression_grammar.specs.inside.Machine.{comma, semicolon, dot, let_word, behind_unary}
use Rattle.expression_grammar.specs.inside.Machine.{behind_infix, behind_colon, in_index, in_arguments}
use Rattle.expression_grammar.specs.inside.Machine.{in_elements, in_body, in_expression, wanted, complete}
use Rattle.expression_grammar.specs.inside.Machine.{part_wanted, part_read, word_read, bracketed, sized}
use Rattle.expression_grammar.specs.inside.Machine.{sized_closed, first_argument, argument_wanted}
use Rattle.expression_grammar.specs.inside.Machine.{identifier_read, first_element, is_tight, ended}
use Rattle.expression_grammar.specs.inside.Machine.{reduced, asked, within, unless_bad, around, infix_step}
use Rattle.expression_grammar.specs.inside.Machine.{question_step, colon_step, closing_step, bracket_step}
use Rattle.expression_grammar.specs.inside.Machine.{comma_step, semicolon_step, complete_step, mode_step}
use Rattle.expression_grammar.specs.inside.Machine.{wanted_step, whole, unless_bad_end, finish, name_tree}
use Rattle.expression_grammar.specs.inside.Machine.{path_name, first_part, ident_at, integer_tree}
use Rattle.expression_grammar.specs.inside.Machine.{indexed_tree}

pub within_room : (limit : ℕ) (frames : List Frame) (need : ℕ) (made : Step) →
    length frames + need ≤ limit → within limit frames need made ≡ made
within_room limit frames need made room =
    cond-true (nat_le (length frames + need) limit) made deep (le-leb (length frames + need) limit
    room)

unless_same : (limit : ℕ) (frames : List Frame) (need : ℕ) (made : Step) →
    length frames + need ≤ limit → unless_bad limit frames need made ≡ made
unless_same limit frames need bad room = refl
unless_same limit frames need (goes mode below) room = within_room limit frames need
    (goes mode below) room
unless_same limit frames need deep room = within_room limit frames need deep room
unless_same limit frames need (is_left_out text) room =
    within_room limit frames need (is_left_out text) room

unless_same_end : (limit : ℕ) (frames : List Frame) (need : ℕ) (made : Finish) →
    length frames + need ≤ limit → unless_bad_end limit frames need made ≡ made
unless_same_end limit frames need ends_badly room = refl
unless_same_end limit frames need ends_deep room = refl
unless_same_end limit frames need (finished tree) room =
    cond-true (nat_le (length frames + need) limit) (finished tree) ends_deep
    (le-leb (length frames + need) limit room)

-- the place isn't straight in an index or among arguments
abbrev IsPlain : List Frame → Type 0
IsPlain (in_arguments name arguments with_name label ∷ frames) = ⊥
IsPlain (in_index of ∷ frames) = ⊥
IsPlain frames = Unit {0}

-- a token of this sort, other than a bracket, may follow a tree of this level in this place
abbrev Follows : Sort → ℕ → List Frame → Type 0
Follows (either_operator op own) level frames = own ≤ level
Follows (binary_operator op own) level frames = own ≤ level
Follows question level frames = 2 ≤ level
Follows dot level frames = 13 ≤ level
Follows colon level frames = IsPlain frames
Follows closing level frames = Unit {0}
Follows comma level frames = Unit {0}
Follows semicolon level frames = Unit {0}
Follows sort level frames = ⊥

-- what `[` makes of the state
pub data Opens (limit : ℕ) : Tree → List Frame → Mode → List Frame → Type 0 where
  opens_name : (name : Name) (frames : List Frame) (mode : Mode) (last_frames : List Frame) →
      ((place : Span) → mode_step limit mode last_frames opening_bracket place ≡ goes
      (bracketed name) frames) → Opens limit (name_tree name) frames mode last_frames
  opens_tree : (tree : Tree) (frames : List Frame) (mode : Mode) (last_frames : List Frame) →
      ((place : Span) → mode_step limit mode last_frames opening_bracket place ≡ around limit
      (in_index tree) tree frames) → Opens limit tree frames mode last_frames

-- what `]` makes of the state
pub data Closes (limit : ℕ) : Tree → List Frame → Mode → List Frame → Type 0 where
  in_whole : (tree : Tree) (frames : List Frame) (mode : Mode) (last_frames : List Frame) →
      ((place : Span) → mode_step limit mode last_frames closing_bracket place ≡ complete_step limit
      tree frames closing_bracket place) → Closes limit tree frames mode last_frames
  in_size : (name : Name) (value : ℕ) (place : Span) (frames : List Frame) →
      Closes limit (integer_tree value place) (in_index (name_tree name) ∷ frames)
      (sized name value place) frames

-- the tree was read over the frames, and the state acts as the whole tree there
pub record Edge (limit : ℕ) (tree : Tree) (frames : List Frame) (mode : Mode)
    (last_frames : List Frame) : Type 0 where
  pub acts : (sort : Sort) (place : Span) → Follows sort (level tree) frames →
      mode_step limit mode last_frames sort place ≡ complete_step limit tree frames sort place
  pub opens : 13 ≤ level tree → Opens limit tree frames mode last_frames
  pub closes : Closes limit tree frames mode last_frames
  pub ends : finish limit mode last_frames ≡ whole (reduced 0 tree frames)

pub whole_edge : (limit : ℕ) (tree : Tree) (frames : List Frame) → Edge limit tree frames
    (complete tree) frames
whole_edge limit tree frames = record {
  acts = λ sort place follows. refl;
  opens = λ high. opens_tree tree frames (complete tree) frames (λ place. refl);
  closes = in_whole tree frames (complete tree) frames (λ place. refl);
  ends = refl;
}

size_acts : (limit : ℕ) (name : Name) (value : ℕ) (at : Span) (frames : List Frame) (sort : Sort)
    (place : Span) → Follows sort 14 (in_index (name_tree name) ∷ frames) →
    mode_step limit (sized name value at) frames sort place ≡ complete_step limit
    (integer_tree value at) (in_index (name_tree name) ∷ frames) sort place
size_acts limit name value at frames closing_bracket place follows = absurd follows
size_acts limit name value at frames sort place follows = refl

pub size_edge : (limit : ℕ) (name : Name) (value : ℕ) (at : Span) (frames : List Frame) →
    Edge limit (integer_tree value at) (in_index (name_tree name) ∷ frames) (sized name value at)
    frames
size_edge limit name value at frames = record {
  acts = λ sort place follows. size_acts limit name value at frames sort place follows;
  opens = λ high. opens_tree (integer_tree value at) (in_index (name_tree name) ∷ frames)
      (sized name value at) frames (λ place. refl);
  closes = in_size name value at frames;
  ends = refl;
}

index_acts : (limit : ℕ) (name : Name) (value : ℕ) (at : Span) (end : ℕ) (frames : List Frame) →
    length frames + 2 ≤ limit → (sort : Sort) (place : Span) → Follows sort 13 frames →
    mode_step limit (sized_closed name value at end) frames sort place ≡ complete_step limit
    (indexed_tree name value at end) frames sort place
index_acts limit name value at end frames room opening place follows = absurd follows
index_acts limit name value at end frames room sort place follows =
    unless_same limit frames 2 (complete_step limit (indexed_tree name value at end) frames sort
    place) room

pub index_edge : (limit : ℕ) (name : Name) (value : ℕ) (at : Span) (end : ℕ) (frames : List Frame) →
    length frames + 2 ≤ limit → Edge limit (indexed_tree name value at end) frames
    (sized_closed name value at end) frames
index_edge limit name value at end frames room =
    let tree = indexed_tree name value at end in record {
      acts = λ sort place follows. index_acts limit name value at end frames room sort place
          follows;
      opens = λ high. opens_tree tree frames (sized_closed name value at end) frames
          (λ place. unless_same limit frames 2 (complete_step limit tree frames opening_bracket
          place) room);
      closes = in_whole tree frames (sized_closed name value at end) frames
          (λ place. unless_same limit frames 2 (complete_step limit tree frames closing_bracket
          place) room);
      ends = unless_same_end limit frames 2 (whole (reduced 0 tree frames)) room;
    }

-- The states behind names.

pub data PathEdge : Purpose → Path → List Frame → Mode → Type 0 where
  path_read : (purpose : Purpose) (path : Path) (frames : List Frame) →
      PathEdge purpose path frames (part_read purpose path)
  path_identifier : (text : List ℕ) (at : Span) (name : Name) (arguments : List Argument)
      (with_name : Bool) (label : Option Ident) (frames : List Frame) →
      PathEdge in_expression (first_part text at) (in_arguments name arguments with_name label
      ∷ frames) (identifier_read (ident_at text at))

pub data NameEdge : Purpose → Name → List Frame → Mode → Type 0 where
  of_path : (purpose : Purpose) (path : Path) (frames : List Frame) (mode : Mode) →
      PathEdge purpose path frames mode → NameEdge purpose (path_name path) frames mode
  of_word : (purpose : Purpose) (name : Name) (frames : List Frame) →
      NameEdge purpose name frames (word_read purpose name)

pub path_goes_on : (limit : ℕ) (purpose : Purpose) (path : Path) (frames : List Frame) (mode : Mode)
    (place : Span) → PathEdge purpose path frames mode →
    mode_step limit mode frames double_colon place ≡ goes (part_wanted purpose path) frames
path_goes_on limit purpose path frames mode place (path_read _ _ _) = refl
path_goes_on limit purpose path frames mode place (path_identifier text at name arguments with_name
    label _) = refl

pub name_opens : (limit : ℕ) (name : Name) (frames : List Frame) (mode : Mode) (place : Span) →
    NameEdge in_expression name frames mode → mode_step limit mode frames opening place
    ≡ goes first_argument (in_arguments name [] false None ∷ frames)
name_opens limit name frames mode place (of_path _ _ _ _ (path_read _ _ _)) = refl
name_opens limit name frames mode place (of_path _ _ _ _ (path_identifier _ _ _ _ _ _ _)) = refl
name_opens limit name frames mode place (of_word _ _ _) = refl

pub name_brackets : (limit : ℕ) (name : Name) (frames : List Frame) (mode : Mode) (place : Span) →
    NameEdge in_expression name frames mode → mode_step limit mode frames opening_bracket place
    ≡ goes (bracketed name) frames
name_brackets limit name frames mode place (of_path _ _ _ _ (path_read _ _ _)) = refl
name_brackets limit name frames mode place (of_path _ _ _ _ (path_identifier _ _ _ _ _ _ _)) = refl
name_brackets limit name frames mode place (of_word _ _ _) = refl

name_acts : (limit : ℕ) (name : Name) (frames : List Frame) (mode : Mode) (sort : Sort)
    (place : Span) → NameEdge in_expression name frames mode → Follows sort 14 frames →
    mode_step limit mode frames sort place ≡ complete_step limit (name_tree name) frames sort place
name_acts limit name frames mode double_colon place edge follows = absurd follows
name_acts limit name frames mode opening place edge follows = absurd follows
name_acts limit name frames mode opening_bracket place edge follows = absurd follows
name_acts limit name frames mode colon place (of_path _ _ _ _ (path_read _ _ _)) follows = refl
name_acts limit name frames mode colon place (of_path _ _ _ _ (path_identifier _ _ _ _ _ _ _))
    follows =
    absurd follows
name_acts limit name frames mode colon place (of_word _ _ _) follows = refl
name_acts limit name frames mode sort place (of_path _ _ _ _ (path_read _ _ _)) follows = refl
name_acts limit name frames mode sort place (of_path _ _ _ _ (path_identifier _ _ _ _ _ _ _))
    follows = refl
name_acts limit name frames mode sort place (of_word _ _ _) follows = refl

name_closes : (limit : ℕ) (name : Name) (frames : List Frame) (mode : Mode) (place : Span) →
    NameEdge in_expression name frames mode → mode_step limit mode frames closing_bracket place
    ≡ complete_step limit (name_tree name) frames closing_bracket place
name_closes limit name frames mode place (of_path _ _ _ _ (path_read _ _ _)) = refl
name_closes limit name frames mode place (of_path _ _ _ _ (path_identifier _ _ _ _ _ _ _)) = refl
name_closes limit name frames mode place (of_word _ _ _) = refl

name_ends : (limit : ℕ) (name : Name) (frames : List Frame) (mode : Mode) →
    NameEdge in_expression name frames mode →
    finish limit mode frames ≡ whole (reduced 0 (name_tree name) frames)
name_ends limit name frames mode (of_path _ _ _ _ (path_read _ _ _)) = refl
name_ends limit name frames mode (of_path _ _ _ _ (path_identifier _ _ _ _ _ _ _)) = refl
name_ends limit name frames mode (of_word _ _ _) = refl

pub name_edge : (limit : ℕ) (name : Name) (frames : List Frame) (mode : Mode) →
    NameEdge in_expression name frames mode → Edge limit (name_tree name) frames mode frames
name_edge limit name frames mode edge = record {
  acts = λ sort place follows. name_acts limit name frames mode sort place edge follows;
  opens = λ high. opens_name name frames mode frames (λ place. name_brackets limit name frames mode
      place edge);
  closes = in_whole (name_tree name) frames mode frames (λ place. name_closes limit name frames mode
      place edge);
  ends = name_ends limit name frames mode edge;
}

-- The states behind the last operand of a form.

-- the operand ends the frame's expression, whatever follows that may follow the expression
pub record IsEnding (frame : Frame) (frames : List Frame) (right : Tree) : Type 0 where
  pub low : level (ended frame right) ≤ level right
  pub under : level (ended frame right) ≤ 12
  pub tight : (grip : ℕ) → grip ≤ level (ended frame right) → is_tight grip frame ≡ true
  pub plain : IsPlain (frame ∷ frames)

reduced_tight : (grip : ℕ) (frame : Frame) (frames : List Frame) (right : Tree) →
    is_tight grip frame ≡ true → reduced grip right (frame ∷ frames) ≡ reduced grip
    (ended frame right) frames
reduced_tight grip frame frames right tight =
    cond-true (is_tight grip frame) (reduced grip (ended frame right) frames)
    (right, frame ∷ frames) tight

deeper_acts : (limit : ℕ) (frame : Frame) (frames : List Frame) (right : Tree) (mode : Mode)
    (last_frames : List Frame) → Edge limit right (frame ∷ frames) mode last_frames →
    IsEnding frame frames right → (sort : Sort) (place : Span) →
    Follows sort (level (ended frame right)) frames → mode_step limit mode last_frames sort place
    ≡ complete_step limit (ended frame right) frames sort place
deeper_acts limit frame frames right mode last_frames edge ending (either_operator op own) place
    follows =
    edge.acts (either_operator op own) place (omega (arith, follows, ending.low)) ∙ ap
    (infix_step limit op own) (reduced_tight own frame frames right (ending.tight own follows))
deeper_acts limit frame frames right mode last_frames edge ending (binary_operator op own) place
    follows =
    edge.acts (binary_operator op own) place (omega (arith, follows, ending.low)) ∙ ap
    (infix_step limit op own) (reduced_tight own frame frames right (ending.tight own follows))
deeper_acts limit frame frames right mode last_frames edge ending question place follows =
    edge.acts question place (omega (arith, follows, ending.low)) ∙ ap (question_step limit)
    (reduced_tight 2 frame frames right (ending.tight 2 follows))
deeper_acts limit frame frames right mode last_frames edge ending dot place follows =
    absurd (omega (arith, follows, ending.under))
deeper_acts limit frame frames right mode last_frames edge ending colon place follows =
    edge.acts colon place ending.plain ∙ ap colon_step (reduced_tight 0 frame frames right
    (ending.tight 0 (omega arith)))
deeper_acts limit frame frames right mode last_frames edge ending closing place follows =
    edge.acts closing place tt ∙ ap (closing_step place.end) (reduced_tight 0 frame frames right
    (ending.tight 0 (omega arith)))
deeper_acts limit frame frames right mode last_frames edge ending comma place follows =
    edge.acts comma place tt ∙ ap comma_step (reduced_tight 0 frame frames right
    (ending.tight 0 (omega arith)))
deeper_acts limit frame frames right mode last_frames edge ending semicolon place follows =
    edge.acts semicolon place tt ∙ ap (semicolon_step place.end) (reduced_tight 0 frame frames right
    (ending.tight 0 (omega arith)))
deeper_acts limit frame frames right mode last_frames edge ending sort place follows = absurd
    follows

closes_whole : (limit : ℕ) (tree : Tree) (frames : List Frame) (mode : Mode)
    (last_frames : List Frame) (place : Span) → Closes limit tree frames mode last_frames →
    IsPlain frames → mode_step limit mode last_frames closing_bracket place ≡ complete_step limit
    tree frames closing_bracket place
closes_whole limit tree frames mode last_frames place (in_whole _ _ _ _ whole_is) plain = whole_is
    place
closes_whole limit tree frames mode last_frames place (in_size _ _ _ _) plain = absurd plain

pub deeper : (limit : ℕ) (frame : Frame) (frames : List Frame) (right : Tree) (mode : Mode)
    (last_frames : List Frame) → Edge limit right (frame ∷ frames) mode last_frames →
    IsEnding frame frames right → Edge limit (ended frame right) frames mode last_frames
deeper limit frame frames right mode last_frames edge ending = record {
  acts = λ sort place follows.
      deeper_acts limit frame frames right mode last_frames edge ending sort place follows;
  opens = λ high. absurd (omega (arith, high, ending.under));
  closes = in_whole (ended frame right) frames mode last_frames (λ place. closes_whole limit right
      (frame ∷ frames) mode last_frames place edge.closes ending.plain ∙ ap (bracket_step place.end)
      (reduced_tight 0 frame frames right (ending.tight 0 (omega arith))));
  ends = edge.ends ∙ ap whole (reduced_tight 0 frame frames right (ending.tight 0 (omega arith)));
}

-- an operand stays what it is where the place asks at most what grips it
pub stays : (grip : ℕ) (tree : Tree) (frames : List Frame) → asked frames ≤ grip → 2 ≤ grip →
    grip ≤ 11 → reduced grip tree frames ≡ (tree, frames)
stays grip tree [] low least most = refl
stays grip tree (behind_unary op at ∷ frames) low least most = absurd (omega (arith, low, most))
stays grip tree (behind_infix op own left ∷ frames) low least most =
    cond-false (nat_le grip own) (reduced grip (ended (behind_infix op own left) tree) frames)
    (tree, behind_infix op own left ∷ frames) (lt-leb grip own low)
stays grip tree (behind_colon test one ∷ frames) low least most =
    cond-false (nat_le grip 1) (reduced grip (ended (behind_colon test one) tree) frames)
    (tree, behind_colon test one ∷ frames) (lt-leb grip 1 least)
stays grip tree (in_body held ∷ frames) low least most =
    cond-false (nat_le grip 0) (reduced grip (ended (in_body held) tree) frames)
    (tree, in_body held ∷ frames) (lt-leb grip 0 (omega (arith, least)))
stays grip tree (frame ∷ frames) low least most = refl

-- Where a tree may begin.

-- the state acts as the one where an operand over the last frames is wanted
pub data Entry : Mode → List Frame → List Frame → Type 0 where
  from_wanted : (frames : List Frame) → Entry wanted frames frames
  from_bracket : (name : Name) (frames : List Frame) →
      Entry (bracketed name) frames (in_index (name_tree name) ∷ frames)
  from_element : (name : Name) (own : Option ℕ) (elements : List Tree) (frames : List Frame) →
      Entry first_element (in_elements name own elements ∷ frames)
      (in_elements name own elements ∷ frames)
  from_argument : (name : Name) (arguments : List Argument) (label : Option Ident)
      (frames : List Frame) →
      Entry argument_wanted (in_arguments name arguments false label ∷ frames)
      (in_arguments name arguments false label ∷ frames)
  from_first_argument : (name : Name) (arguments : List Argument) (label : Option Ident)
      (frames : List Frame) →
      Entry first_argument (in_arguments name arguments false label ∷ frames)
      (in_arguments name arguments false label ∷ frames)

-- a tree begins so, and is neither an integer nor an identifier
abbrev Begins : Sort → Type 0
Begins (other_literal lit) = Unit {0}
Begins (type_word number) = Unit {0}
Begins double_colon = Unit {0}
Begins opening = Unit {0}
Begins (unary_operator op) = Unit {0}
Begins (either_operator op own) = Unit {0}
Begins let_word = Unit {0}
Begins sort = ⊥

pub entry_acts : (limit : ℕ) (mode : Mode) (frames0 frames : List Frame) (sort : Sort)
    (place : Span) → Entry mode frames0 frames → Begins sort →
    mode_step limit mode frames0 sort place ≡ wanted_step limit frames sort place
entry_acts limit mode frames0 frames (identifier text) place entry begins = absurd begins
entry_acts limit mode frames0 frames (integer value) place entry begins = absurd begins
entry_acts limit mode frames0 frames closing place entry begins = absurd begins
entry_acts limit mode frames0 frames closing_bracket place entry begins = absurd begins
entry_acts limit mode frames0 frames sort place (from_wanted _) begins = refl
entry_acts limit mode frames0 frames sort place (from_bracket _ _) begins = refl
entry_acts limit mode frames0 frames sort place (from_element _ _ _ _) begins = refl
entry_acts limit mode frames0 frames sort place (from_argument _ _ _ _) begins = refl
entry_acts limit mode frames0 frames sort place (from_first_argument _ _ _ _) begins = refl
