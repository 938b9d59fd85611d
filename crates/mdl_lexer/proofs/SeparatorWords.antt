-- Reading a separator agrees with its definition.
use Rattle.std.proofs.Common.{◌≡◌, ◌≤◌, ◌∙◌, sym, ap, subst, refl, arith, ℕ, ◌==◌, not, Bool, true, false}
use Rattle.std.proofs.Common.{List, [], ◌∷◌, ◌++◌, Option, Some, None, length}
use Rattle.std.proofs.Common.{codes, take_while, if◌then◌else◌}
use Rattle.std.proofs.lemmas.Bool.{cond-true, cond-false, eqb-true}
use Rattle.std.proofs.lemmas.List.{append_assoc, length-append, nil_from_length}
use Rattle.mdl_lexer.specs.Characters.{is_blank}
use Rattle.mdl_lexer.specs.Forms.{IsSeparator, blank, line, block}
use Rattle.mdl_lexer.specs.inside.Cutting.{drop_while, behind_one}
use Rattle.mdl_lexer.specs.inside.Reading.{or_else}
use Rattle.mdl_lexer.specs.inside.Separators.{block_end, behind_block, behind_comment, behind_separator}
use Rattle.mdl_lexer.proofs.ListLaws.{drop_front, dropped_length}
use Rattle.mdl_lexer.proofs.NumberLaws.{parted, all_taken}

-- a separator, and then the rest
pub record SeparatorBefore (text rest : List ℕ) : Type 0 where
  pub form : List ℕ
  pub written : text ≡ form ++ rest
  pub separator : IsSeparator form

-- a body up to the first `*/`, and then the rest
record BlockBefore (text rest : List ℕ) : Type 0 where
  body : List ℕ
  written : text ≡ body ++ (codes "*/" ++ rest)
  next : (front back : List ℕ) → body ++ codes "*/" ≡ front ++ (codes "*/" ++ back) → back ≡ []

-- what stands behind a character has it before it
behind_one_is : (char : ℕ) (text rest : List ℕ) → behind_one char text ≡ Some rest → text ≡ char ∷ rest
behind_one_is char [] rest found = cc
behind_one_is char (other ∷ text) rest found = by (other == char) refl
  where
    by : (b : Bool) → (other == char) ≡ b → other ∷ text ≡ char ∷ rest
    by true is =
        let other_is : other ≡ char = eqb-true other char is in
        let same : ◌≡◌ {A = Option (List ℕ)} (Some text) (Some rest) =
        sym (cond-true (other == char) (Some text) None is) ∙ found in
        cc
    by false is =
        let none : None ≡ Some rest = sym (cond-false (other == char) (Some text) None is) ∙ found in
        cc

-- the end of a block comment is `*/`
block_end_is : (char : ℕ) (text rest : List ℕ) → block_end char text ≡ Some rest →
    (char ≡ 42) × (text ≡ 47 ∷ rest)
block_end_is char text rest found = by (char == 42) refl
  where
    by : (b : Bool) → (char == 42) ≡ b → (char ≡ 42) × (text ≡ 47 ∷ rest)
    by true is = (
      eqb-true char 42 is,
      behind_one_is 47 text rest (sym (cond-true (char == 42) (behind_one 47 text) None is) ∙ found),
    )
    by false is =
        let none : None ≡ Some rest = sym (cond-false (char == 42) (behind_one 47 text) None is) ∙ found in
        cc

-- what stands behind the first `*/` has a body before it
block_found : (text rest : List ℕ) → behind_block text ≡ Some rest → BlockBefore text rest
block_found [] rest found = cc
block_found (char ∷ text) rest found = by (block_end char text) refl (block_found text rest)
  where
    ends : (end : List ℕ) → block_end char text ≡ Some end → BlockBefore (char ∷ text) rest
    ends end is =
        let both = block_end_is char text end is in
        let same : ◌≡◌ {A = Option (List ℕ)} (Some end) (Some rest) =
        sym (ap (λ (o : Option (List ℕ)). or_else o (behind_block text)) is) ∙ found in
        let end_is : end ≡ rest = cc in
        record {
          body = [];
          written = ap (λ c. c ∷ text) both.0 ∙ ap (λ t. 42 ∷ t) (both.1 ∙ ap (λ t. 47 ∷ t) end_is);
          next = λ front back same.
              nil_from_length back (omega (arith, ap length same, length-append front (codes "*/" ++ back)));
        }

    by : (o : Option (List ℕ)) → block_end char text ≡ o →
        (behind_block text ≡ Some rest → BlockBefore text rest) → BlockBefore (char ∷ text) rest
    by (Some end) is later = ends end is
    by None is later =
        let before = later (sym (ap (λ (o : Option (List ℕ)). or_else o (behind_block text)) is) ∙ found) in
        record {
          body = char ∷ before.body;
          written = ap (λ t. char ∷ t) before.written;
          next = next before;
        }
      where
        next : (before : BlockBefore text rest) (front back : List ℕ) →
            (char ∷ before.body) ++ codes "*/" ≡ front ++ (codes "*/" ++ back) → back ≡ []
        next before [] back same =
            let char_is : char ≡ 42 = cc in
            let front_is : before.body ++ codes "*/" ≡ 47 ∷ back = cc in
            let text_is : text ≡ 47 ∷ (back ++ rest) =
            before.written
            ∙ (sym (append_assoc before.body (codes "*/") rest) ∙ ap (λ f. f ++ rest) front_is) in
            let ends : block_end char text ≡ Some (back ++ rest) =
            ap (λ c. block_end c text) char_is ∙ ap (block_end 42) text_is in
            let none : None ≡ Some (back ++ rest) = sym is ∙ ends in
            cc
        next before (first ∷ front) back same =
            let tail : before.body ++ codes "*/" ≡ front ++ (codes "*/" ++ back) = cc in
            before.next front back tail

-- what stands behind a comment's first `/` has the comment before it
comment_found : (text rest : List ℕ) → behind_comment text ≡ Some rest → SeparatorBefore (47 ∷ text) rest
unfolding behind_comment
comment_found [] rest found = cc
comment_found (char ∷ text) rest found = by (char == 47) refl (char == 42) refl
  where
    in_line : ℕ → Bool
    in_line next = not (next == 10)

    behind : Option (List ℕ)
    behind = if char == 42 then behind_block text else None

    by : (b : Bool) → (char == 47) ≡ b → (c : Bool) → (char == 42) ≡ c →
        SeparatorBefore (47 ∷ (char ∷ text)) rest
    by true is c star =
        let char_is : char ≡ 47 = eqb-true char 47 is in
        let same : ◌≡◌ {A = Option (List ℕ)} (Some (drop_while in_line text)) (Some rest) =
        sym (cond-true (char == 47) (Some (drop_while in_line text)) behind is) ∙ found in
        let rest_is : drop_while in_line text ≡ rest = cc in
        record {
          form = codes "//" ++ take_while in_line text;
          written =
              ap (λ c. 47 ∷ (c ∷ text)) char_is
              ∙ ap (λ t. codes "//" ++ t)
              (parted in_line text ∙ ap (λ r. take_while in_line text ++ r) rest_is);
          separator =
              line (record {
                rest = take_while in_line text;
                written = refl;
                one_line = all_taken in_line text;
              });
        }
    by false is true star =
        let char_is : char ≡ 42 = eqb-true char 42 star in
        let found_block : behind_block text ≡ Some rest =
        sym (cond-false (char == 47) (Some (drop_while in_line text)) behind is
        ∙ cond-true (char == 42) (behind_block text) None star) ∙ found in
        let before = block_found text rest found_block in
        record {
          form = codes "/*" ++ (before.body ++ codes "*/");
          written =
              ap (λ c. 47 ∷ (c ∷ text)) char_is
              ∙ ap (λ t. codes "/*" ++ t) (before.written ∙ sym (append_assoc before.body (codes "*/") rest));
          separator = block (record { body = before.body; written = refl; next = before.next });
        }
    by false is false star =
        let none : None ≡ Some rest =
        sym (cond-false (char == 47) (Some (drop_while in_line text)) behind is
        ∙ cond-false (char == 42) (behind_block text) None star) ∙ found in
        cc

-- what stands behind a separator has the separator before it
pub separator_found : (text rest : List ℕ) → behind_separator text ≡ Some rest → SeparatorBefore text rest
unfolding behind_separator
separator_found [] rest found = cc
separator_found (char ∷ text) rest found = by (is_blank char) refl (char == 47) refl
  where
    behind : Option (List ℕ)
    behind = if char == 47 then behind_comment text else None

    by : (b : Bool) → is_blank char ≡ b → (c : Bool) → (char == 47) ≡ c → SeparatorBefore (char ∷ text) rest
    by true is c slash =
        let same : ◌≡◌ {A = Option (List ℕ)} (Some text) (Some rest) =
        sym (cond-true (is_blank char) (Some text) behind is) ∙ found in
        let rest_is : text ≡ rest = cc in
        record { form = char ∷ []; written = ap (λ t. char ∷ t) rest_is; separator = blank is }
    by false is true slash =
        subst (λ c. SeparatorBefore (c ∷ text) rest) (sym (eqb-true char 47 slash))
        (comment_found text rest
        (sym (cond-false (is_blank char) (Some text) behind is
        ∙ cond-true (char == 47) (behind_comment text) None slash) ∙ found))
    by false is false slash =
        let none : None ≡ Some rest =
        sym (cond-false (is_blank char) (Some text) behind is
        ∙ cond-false (char == 47) (behind_comment text) None slash) ∙ found in
        cc

-- there is a rest, and it isn't longer
abbrev pub SeparatorBound : Option (List ℕ) → List ℕ → Type 0
SeparatorBound None rest = ⊥
SeparatorBound (Some found) rest = length found ≤ length rest

-- a body before `*/` that begins a text with `/`
slash_first : (body rest end : List ℕ) → body ++ (codes "*/" ++ rest) ≡ 47 ∷ end →
    (back : List ℕ) × (body ++ codes "*/" ≡ 47 ∷ back) × (1 ≤ length back)
slash_first [] rest end same =
    let char : ◌≡◌ {A = ℕ} 42 47 = cc in
    absurd (omega (arith, char))
slash_first (char ∷ body) rest end same =
    let char_is : char ≡ 47 = cc in (
      body ++ codes "*/",
      ap (λ c. c ∷ (body ++ codes "*/")) char_is,
      omega (arith, length-append body (codes "*/")),
    )

-- the first `*/` is found
block_bound : (body rest : List ℕ) →
    ((front back : List ℕ) → body ++ codes "*/" ≡ front ++ (codes "*/" ++ back) → back ≡ []) →
    behind_block (body ++ (codes "*/" ++ rest)) ≡ Some rest
block_bound [] rest next = refl
block_bound (char ∷ body) rest next =
    by (block_end char (body ++ (codes "*/" ++ rest))) refl
    (block_bound body rest (λ front back same. next (char ∷ front) back (ap (λ t. char ∷ t) same)))
  where
    by : (o : Option (List ℕ)) → block_end char (body ++ (codes "*/" ++ rest)) ≡ o →
        behind_block (body ++ (codes "*/" ++ rest)) ≡ Some rest →
        behind_block (char ∷ (body ++ (codes "*/" ++ rest))) ≡ Some rest
    by None is later =
        ap (λ (o : Option (List ℕ)). or_else o (behind_block (body ++ (codes "*/" ++ rest)))) is ∙ later
    by (Some end) is later =
        let both = block_end_is char (body ++ (codes "*/" ++ rest)) end is in
        let first = slash_first body rest end both.1 in
        let none : first.0 ≡ [] =
        next [] first.0 (ap (λ c. c ∷ (body ++ codes "*/")) both.0 ∙ ap (λ t. 42 ∷ t) first.1) in
        absurd (omega (arith, first.2, ap length none))

-- a separator at the front is found, or a longer one
pub separator_bound : (form rest : List ℕ) → IsSeparator form →
    SeparatorBound (behind_separator (form ++ rest)) rest
unfolding behind_separator behind_comment
separator_bound form rest (blank {char} is) =
    subst (λ o. SeparatorBound o rest)
    (sym (cond-true (is_blank char) (Some rest) (if char == 47 then behind_comment rest else None) is))
    (omega arith)
separator_bound form rest (line comment) =
    subst (λ f. SeparatorBound (behind_separator (f ++ rest)) rest) (sym comment.written)
    (omega (
      arith,
      dropped_length (λ next. not (next == 10)) rest,
      ap length (drop_front (λ next. not (next == 10)) comment.rest rest comment.one_line),
    ))
separator_bound form rest (block comment) =
    subst (λ f. SeparatorBound (behind_separator (f ++ rest)) rest) (sym comment.written)
    (subst (λ o. SeparatorBound o rest)
    (sym (ap behind_block (append_assoc comment.body (codes "*/") rest)
    ∙ block_bound comment.body rest comment.next))
    (omega arith))
