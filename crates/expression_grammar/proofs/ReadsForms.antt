-- The machine reads the forms made of operands: parentheses, operators, indices and fields.
use Rattle.std.proofs.Common.{◌≡◌, ◌∙◌, ap, refl, arith, ℕ, suc, ◌+◌, ◌≤◌, Bool, true, List, []}
use Rattle.std.proofs.Common.{◌∷◌, ◌++◌, Some, codes, length}
use Rattle.std.proofs.lemmas.Bool.{le-leb}
use Rattle.mdl_lexer.specs.declared.token.Token.{Token}
use Rattle.mdl_lexer.specs.declared.token.Kind.TheVariants as kind
use Rattle.mdl_syntax.specs.Levels.{is_unary, binary_level, level}
use Rattle.mdl_syntax.specs.Heights.{height}
use Rattle.mdl_syntax.specs.Trees.{Tree, parenthesized, unary, binary, conditional, indexed, field}
use Rattle.expression_grammar.specs.inside.Machine.{Sort, Mode, Frame, goes, sort_of, unary_operator}
use Rattle.expression_grammar.specs.inside.Machine.{either_operator, binary_operator, question, colon}
use Rattle.expression_grammar.specs.inside.Machine.{opening, closing, opening_bracket, closing_bracket}
use Rattle.expression_grammar.specs.inside.Machine.{dot, identifier, taken, asked, wanted, complete}
use Rattle.expression_grammar.specs.inside.Machine.{field_wanted, bracketed, sized_closed, in_parentheses}
use Rattle.expression_grammar.specs.inside.Machine.{behind_unary, behind_infix, behind_question}
use Rattle.expression_grammar.specs.inside.Machine.{behind_colon, in_index, infix_step, question_step}
use Rattle.expression_grammar.specs.inside.Machine.{reduced, ident_at, from_to, span_of, across}
use Rattle.expression_grammar.specs.inside.Sound.{IsMark, place}
use Rattle.expression_grammar.proofs.ReadsSorts.{by_sort, front_sort, infix_sort, FrontSort, InfixSort}
use Rattle.expression_grammar.proofs.ReadsSorts.{front_alone, front_either, infix_either, infix_alone}
use Rattle.expression_grammar.proofs.ReadsEdges.{Edge, whole_edge, index_edge, within_room, Entry}
use Rattle.expression_grammar.proofs.ReadsEdges.{from_wanted, from_bracket, entry_acts, deeper, stays}
use Rattle.expression_grammar.proofs.ReadsEdges.{IsEnding, Opens, opens_name, opens_tree, Closes, in_whole}
use Rattle.expression_grammar.proofs.ReadsEdges.{in_size}
use Rattle.expression_grammar.proofs.ReadsLevels.{operator_between, level_of_binary}
use Rattle.expression_grammar.proofs.ReadsNames.{Reads, Law}
use Rattle.expression_grammar.proofs.HeightLaws.{some_height}
use Rattle.expression_grammar.proofs.LeadsLaws.{leads_on, leads_past, one_step, step_on}

pub parenthesized_law : (strict : Bool) (limit : ℕ) (start close : Token) (inner : Tree)
    (tokens : List Token) → IsMark start (codes "(") → IsMark close (codes ")") →
    Law strict limit inner tokens →
    Law strict limit (parenthesized inner (from_to start.at close.end))
    (start ∷ (tokens ++ close ∷ []))
parenthesized_law strict limit start close inner tokens is_start is_close law mode frames0 frames
    entry low room =
    by (law wanted over over (from_wanted over) (omega arith) (omega (arith, room)))
  where
    over : List Frame
    over = in_parentheses start.at ∷ frames

    by : Reads strict limit wanted over over inner tokens →
        Reads strict limit mode frames0 frames (parenthesized inner (from_to start.at close.end))
        (start ∷ (tokens ++ close ∷ []))
    by read = record {
      last = complete (parenthesized inner (from_to start.at close.end));
      last_frames = frames;
      leads = step_on
          (by_sort strict limit mode frames0 start opening wanted (in_parentheses start.at ∷ frames)
          (ap sort_of is_start.is) tt refl (entry_acts limit mode frames0 frames opening
          (place start) entry tt ∙ within_room limit frames 2
          (goes wanted (in_parentheses start.at ∷ frames))
          (omega (arith, room, some_height inner))))
          (leads_on read.leads (one_step (by_sort strict limit read.last read.last_frames close
          closing (complete (parenthesized inner (from_to start.at close.end))) frames
          (ap sort_of is_close.is) tt refl (read.edge.acts closing (place close) tt))));
      edge = whole_edge limit (parenthesized inner (from_to start.at close.end)) frames;
    }

-- Operators.

front_takes : (strict : Bool) (limit : ℕ) (mode : Mode) (frames0 frames : List Frame) (op : Token)
    (number : ℕ) (sort : Sort) → sort_of op.kind ≡ sort → FrontSort number sort →
    Entry mode frames0 frames → length frames + 2 ≤ limit →
    taken strict limit mode frames0 op ≡ goes wanted (behind_unary number op.at ∷ frames)
front_takes strict limit mode frames0 frames op number sort is front_alone entry room =
    let over = behind_unary number op.at ∷ frames in
    by_sort strict limit mode frames0 op (unary_operator number) wanted over is tt refl
    (entry_acts limit mode frames0 frames (unary_operator number) (place op) entry tt ∙ within_room
    limit frames 2 (goes wanted over) room)
front_takes strict limit mode frames0 frames op number sort is (front_either own) entry room =
    let over = behind_unary number op.at ∷ frames in
    by_sort strict limit mode frames0 op (either_operator number own) wanted over is tt refl
    (entry_acts limit mode frames0 frames (either_operator number own) (place op) entry tt
    ∙ within_room limit frames 2 (goes wanted over) room)

pub unary_law : (strict : Bool) (limit : ℕ) (op : Token) (number : ℕ) (operand : Tree)
    (tokens : List Token) → op.kind ≡ kind.Mark number → is_unary number ≡ true →
    12 ≤ level operand → Law strict limit operand tokens →
    Law strict limit (unary number operand (from_to op.at (span_of operand).end)) (op ∷ tokens)
unary_law strict limit op number operand tokens is is_op high law mode frames0 frames entry low
    room =
    by (law wanted (behind_unary number op.at ∷ frames) (behind_unary number op.at ∷ frames)
    (from_wanted (behind_unary number op.at ∷ frames)) high (omega (arith, room)))
  where
    ending : IsEnding (behind_unary number op.at) frames operand
    ending = record {
      low = high;
      under = omega arith;
      tight = λ grip fits. le-leb grip 12 fits;
      plain = tt;
    }

    by : Reads strict limit wanted (behind_unary number op.at ∷ frames)
        (behind_unary number op.at ∷ frames) operand tokens →
        Reads strict limit mode frames0 frames
        (unary number operand (from_to op.at (span_of operand).end)) (op ∷ tokens)
    by read = record {
      last = read.last;
      last_frames = read.last_frames;
      leads = step_on {last = read.last} {last_frames = read.last_frames}
          (front_takes strict limit mode frames0 frames op number (sort_of (kind.Mark number))
          (ap sort_of is) (front_sort number is_op) entry
          (omega (arith, room, some_height operand))) read.leads;
      edge = deeper limit (behind_unary number op.at) frames operand read.last read.last_frames
          read.edge ending;
    }

infix_takes : (strict : Bool) (limit : ℕ) (mode : Mode) (last_frames frames : List Frame)
    (op : Token) (number own : ℕ) (left : Tree) (sort : Sort) → sort_of op.kind ≡ sort →
    InfixSort number own sort → Edge limit left frames mode last_frames → own ≤ level left →
    infix_step limit number own (reduced own left frames) ≡ goes wanted
    (behind_infix number own left ∷ frames) → taken strict limit mode last_frames op ≡ goes wanted
    (behind_infix number own left ∷ frames)
infix_takes strict limit mode last_frames frames op number own left sort is infix_either edge high
    same =
    by_sort strict limit mode last_frames op (either_operator number own) wanted
    (behind_infix number own left ∷ frames) is tt refl (edge.acts (either_operator number own)
    (place op) high ∙ same)
infix_takes strict limit mode last_frames frames op number own left sort is infix_alone edge high
    same =
    by_sort strict limit mode last_frames op (binary_operator number own) wanted
    (behind_infix number own left ∷ frames) is tt refl (edge.acts (binary_operator number own)
    (place op) high ∙ same)

infix_goes : (limit number own : ℕ) (left : Tree) (frames : List Frame) → binary_level number
    ≡ Some own → asked frames ≤ own → length frames + suc (height left) ≤ limit →
    infix_step limit number own (reduced own left frames) ≡ goes wanted
    (behind_infix number own left ∷ frames)
infix_goes limit number own left frames is low room =
    let between = operator_between number own is in
    ap (infix_step limit number own) (stays own left frames low between.0 between.1) ∙ within_room
    limit frames (suc (height left)) (goes wanted (behind_infix number own left ∷ frames)) room

pub binary_law : (strict : Bool) (limit : ℕ) (op : Token) (number own : ℕ) (left right : Tree)
    (lefts rights : List Token) → op.kind ≡ kind.Mark number → binary_level number ≡ Some own →
    own ≤ level left → suc own ≤ level right → Law strict limit left lefts →
    Law strict limit right rights → Law strict limit (binary number left right (across left right))
    (lefts ++ op ∷ rights)
binary_law strict limit op number own left right lefts rights is is_op left_high right_high left_law
    right_law mode frames0 frames entry low room =
    by (left_law mode frames0 frames entry (omega (arith, low, level_is, left_high))
    (omega (arith, room))) (right_law wanted (behind_infix number own left ∷ frames)
    (behind_infix number own left ∷ frames) (from_wanted (behind_infix number own left ∷ frames))
    right_high (omega (arith, room)))
  where
    level_is : level (binary number left right (across left right)) ≡ own
    level_is = level_of_binary number own left right (across left right) is_op

    ending : IsEnding (behind_infix number own left) frames right
    ending = record {
      low = omega (arith, level_is, right_high);
      under = omega (arith, level_is, (operator_between number own is_op).1);
      tight = λ grip fits. le-leb grip own (omega (arith, fits, level_is));
      plain = tt;
    }

    by : Reads strict limit mode frames0 frames left lefts → Reads strict limit wanted
        (behind_infix number own left ∷ frames) (behind_infix number own left ∷ frames) right
        rights → Reads strict limit mode frames0 frames (binary number left right
        (across left right)) (lefts ++ op ∷ rights)
    by one other = record {
      last = other.last;
      last_frames = other.last_frames;
      leads = leads_past {last = other.last} {last_frames = other.last_frames} op one.leads
          (infix_takes strict limit one.last one.last_frames frames op number own left
          (sort_of (kind.Mark number)) (ap sort_of is) (infix_sort number own is_op) one.edge
          left_high (infix_goes limit number own left frames is_op (omega (arith, low, level_is))
          (omega (arith, room)))) other.leads;
      edge = deeper limit (behind_infix number own left) frames right other.last other.last_frames
          other.edge ending;
    }

question_goes : (limit : ℕ) (test : Tree) (frames : List Frame) → asked frames ≤ 2 →
    length frames + suc (height test) ≤ limit → question_step limit (reduced 2 test frames)
    ≡ goes wanted (behind_question test ∷ frames)
question_goes limit test frames low room =
    ap (question_step limit) (stays 2 test frames low (omega arith) (omega arith)) ∙ within_room
    limit frames (suc (height test)) (goes wanted (behind_question test ∷ frames)) room

pub conditional_law : (strict : Bool) (limit : ℕ) (mark other_mark : Token) (test one other : Tree)
    (tests ones others : List Token) → IsMark mark (codes "?") → IsMark other_mark (codes ":") →
    2 ≤ level test → 1 ≤ level other → Law strict limit test tests → Law strict limit one ones →
    Law strict limit other others →
    Law strict limit (conditional test one other (across test other))
    (tests ++ mark ∷ (ones ++ other_mark ∷ others))
conditional_law strict limit mark other_mark test one other tests ones others is_mark is_other
    test_high other_high test_law one_law other_law mode frames0 frames entry low room =
    by (test_law mode frames0 frames entry (omega (arith, low, test_high)) (omega (arith, room)))
    (one_law wanted (behind_question test ∷ frames) (behind_question test ∷ frames)
    (from_wanted (behind_question test ∷ frames)) (omega arith) (omega (arith, room)))
    (other_law wanted (behind_colon test one ∷ frames) (behind_colon test one ∷ frames)
    (from_wanted (behind_colon test one ∷ frames)) other_high (omega (arith, room)))
  where
    ending : IsEnding (behind_colon test one) frames other
    ending = record {
      low = other_high;
      under = omega arith;
      tight = λ grip fits. le-leb grip 1 fits;
      plain = tt;
    }

    by : Reads strict limit mode frames0 frames test tests → Reads strict limit wanted
        (behind_question test ∷ frames) (behind_question test ∷ frames) one ones →
        Reads strict limit wanted (behind_colon test one ∷ frames) (behind_colon test one ∷ frames)
        other others → Reads strict limit mode frames0 frames (conditional test one other
        (across test other)) (tests ++ mark ∷ (ones ++ other_mark ∷ others))
    by first second third = record {
      last = third.last;
      last_frames = third.last_frames;
      leads = leads_past {last = third.last} {last_frames = third.last_frames} mark
          first.leads (by_sort strict limit first.last first.last_frames mark question wanted
          (behind_question test ∷ frames) (ap sort_of is_mark.is) tt refl
          (first.edge.acts question (place mark) test_high ∙ question_goes limit test frames
          (omega (arith, low))
          (omega (arith, room)))) (leads_past {last = third.last} {last_frames = third.last_frames}
          other_mark second.leads (by_sort strict limit second.last second.last_frames other_mark
          colon wanted (behind_colon test one ∷ frames) (ap sort_of is_other.is) tt refl
          (second.edge.acts colon (place other_mark) tt))
          third.leads);
      edge = deeper limit (behind_colon test one) frames other third.last third.last_frames
          third.edge ending;
    }

-- Indices and fields.

-- behind `[` an operand is wanted in the index
record Inside (strict : Bool) (limit : ℕ) (of : Tree) (frames : List Frame) (mode : Mode)
    (last_frames : List Frame) (start : Token) : Type 0 where
  pub after : Mode
  pub after_frames : List Frame
  pub is : taken strict limit mode last_frames start ≡ goes after after_frames
  pub entry : Entry after after_frames (in_index of ∷ frames)

goes_inside : (strict : Bool) (limit : ℕ) (of : Tree) (frames : List Frame) (mode : Mode)
    (last_frames : List Frame) (start : Token) → IsMark start (codes "[") →
    length frames + suc (height of) ≤ limit → Opens limit of frames mode last_frames →
    Inside strict limit of frames mode last_frames start
goes_inside strict limit of frames mode last_frames start is room
    (opens_name name _ _ _ made) = record {
      after = bracketed name;
      after_frames = frames;
      is = by_sort strict limit mode last_frames start opening_bracket (bracketed name) frames
          (ap sort_of is.is) tt refl (made (place start));
      entry = from_bracket name frames;
    }
goes_inside strict limit of frames mode last_frames start is room
    (opens_tree _ _ _ _ made) = record {
      after = wanted;
      after_frames = in_index of ∷ frames;
      is = by_sort strict limit mode last_frames start opening_bracket wanted (in_index of ∷ frames)
          (ap sort_of is.is) tt refl (made (place start)
          ∙ within_room limit frames (suc (height of)) (goes wanted (in_index of ∷ frames)) room);
      entry = from_wanted (in_index of ∷ frames);
    }

-- behind `]` the whole is read
goes_outside : (strict : Bool) (limit : ℕ) (of at : Tree) (frames : List Frame) (mode : Mode)
    (last_frames : List Frame) (close : Token) → IsMark close (codes "]") →
    length frames + 2 ≤ limit → Closes limit at (in_index of ∷ frames) mode last_frames →
    Reads strict limit mode last_frames frames (indexed of at (from_to (span_of of).at close.end))
    (close ∷ [])
goes_outside strict limit of at frames mode last_frames close is room (in_whole _ _ _ _ made) =
    let tree = indexed of at (from_to (span_of of).at close.end) in record {
      last = complete tree;
      last_frames = frames;
      leads = one_step
          (by_sort strict limit mode last_frames close closing_bracket (complete tree) frames
          (ap sort_of is.is) tt refl (made (place close)));
      edge = whole_edge limit tree frames;
    }
goes_outside strict limit of at frames mode last_frames close is room
    (in_size name value span _) = record {
      last = sized_closed name value span close.end;
      last_frames = frames;
      leads = one_step (by_sort strict limit mode last_frames close closing_bracket
          (sized_closed name value span close.end) frames (ap sort_of is.is) tt refl refl);
      edge = index_edge limit name value span close.end frames room;
    }

pub indexed_law : (strict : Bool) (limit : ℕ) (start close : Token) (of at : Tree)
    (ofs ats : List Token) → IsMark start (codes "[") → IsMark close (codes "]") → 13 ≤ level of →
    Law strict limit of ofs → Law strict limit at ats →
    Law strict limit (indexed of at (from_to (span_of of).at close.end))
    (ofs ++ start ∷ (ats ++ close ∷ []))
indexed_law strict limit start close of at ofs ats is_start is_close high of_law at_law mode frames0
    frames entry low room =
    by (of_law mode frames0 frames entry (omega (arith, low, high)) (omega (arith, room)))
  where
    last_by : (one : Reads strict limit mode frames0 frames of ofs) →
        (inside : Inside strict limit of frames one.last one.last_frames start) →
        (other : Reads strict limit inside.after inside.after_frames (in_index of ∷ frames) at
        ats) → Reads strict limit other.last other.last_frames frames
        (indexed of at (from_to (span_of of).at close.end)) (close ∷ []) →
        Reads strict limit mode frames0 frames (indexed of at (from_to (span_of of).at close.end))
        (ofs ++ start ∷ (ats ++ close ∷ []))
    last_by one inside other outside = record {
      last = outside.last;
      last_frames = outside.last_frames;
      leads = leads_past {last = outside.last} {last_frames = outside.last_frames} start
          one.leads inside.is (leads_on {last = outside.last} {last_frames = outside.last_frames}
          other.leads
          outside.leads);
      edge = outside.edge;
    }

    next_by : (one : Reads strict limit mode frames0 frames of ofs) →
        (inside : Inside strict limit of frames one.last one.last_frames start) →
        Reads strict limit inside.after inside.after_frames (in_index of ∷ frames) at ats →
        Reads strict limit mode frames0 frames (indexed of at (from_to (span_of of).at close.end))
        (ofs ++ start ∷ (ats ++ close ∷ []))
    next_by one inside other =
        last_by one inside other (goes_outside strict limit of at frames other.last
        other.last_frames close is_close (omega (arith, room, some_height of)) other.edge.closes)

    then_by : (one : Reads strict limit mode frames0 frames of ofs) →
        Inside strict limit of frames one.last one.last_frames start →
        Reads strict limit mode frames0 frames (indexed of at (from_to (span_of of).at close.end))
        (ofs ++ start ∷ (ats ++ close ∷ []))
    then_by one inside =
        next_by one inside (at_law inside.after inside.after_frames (in_index of ∷ frames)
        inside.entry (omega arith) (omega (arith, room)))

    by : Reads strict limit mode frames0 frames of ofs →
        Reads strict limit mode frames0 frames (indexed of at (from_to (span_of of).at close.end))
        (ofs ++ start ∷ (ats ++ close ∷ []))
    by one =
        then_by one (goes_inside strict limit of frames one.last one.last_frames start is_start
        (omega (arith, room)) (one.edge.opens high))

pub field_law : (strict : Bool) (limit : ℕ) (mark word : Token) (text : List ℕ) (of : Tree)
    (ofs : List Token) → IsMark mark (codes ".") → word.kind ≡ kind.Word text → 13 ≤ level of →
    Law strict limit of ofs →
    Law strict limit (field of (ident_at text (place word)) (from_to (span_of of).at word.end))
    (ofs ++ mark ∷ word ∷ [])
field_law strict limit mark word text of ofs is_mark is high law mode frames0 frames entry low
    room =
    by (law mode frames0 frames entry (omega (arith, low, high)) (omega (arith, room)))
  where
    by : Reads strict limit mode frames0 frames of ofs → Reads strict limit mode frames0 frames
        (field of (ident_at text (place word)) (from_to (span_of of).at word.end))
        (ofs ++ mark ∷ word ∷ [])
    by one =
        let tree = field of (ident_at text (place word)) (from_to (span_of of).at word.end) in
        record {
          last = complete tree;
          last_frames = frames;
          leads = leads_past mark one.leads
              (by_sort strict limit one.last one.last_frames mark dot (field_wanted of) frames
              (ap sort_of is_mark.is) tt refl (one.edge.acts dot (place mark) high ∙ within_room
              limit frames (suc (height of)) (goes (field_wanted of) frames) (omega (arith, room))))
              (one_step (by_sort strict limit (field_wanted of) frames word (identifier text)
              (complete tree)
              frames (ap sort_of is) tt refl refl));
          edge = whole_edge limit tree frames;
        }
