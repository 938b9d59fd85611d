-- A word alone is read whole, and so it has one kind.
use Rattle.std.proofs.Common.{◌≡◌, ◌≤◌, ◌∙◌, sym, ap, subst, refl, arith, ℕ, Bool, true, false, List, [], ◌∷◌}
use Rattle.std.proofs.Common.{◌++◌}
use Rattle.std.proofs.Common.{length, if◌then◌else◌, Option, Some, None}
use Rattle.std.proofs.lemmas.Bool.{false≢true, and_parts}
use Rattle.std.specs.List.{list_all}
use Rattle.std.proofs.lemmas.List.{append-nil}
use Rattle.std.proofs.lemmas.Option.{same_Some, none-some}
use Rattle.case_table.specs.Tables.{value_of}
use Rattle.mdl_lexer.specs.declared.token.Kind.{Kind}
use Rattle.mdl_lexer.specs.declared.token.Kind.TheVariants as kind
use Rattle.mdl_lexer.specs.Characters.{starts_name, continues_name}
use Rattle.mdl_lexer.specs.Forms.{IsWord, is_name}
use Rattle.mdl_lexer.specs.WordTables.{marks}
use Rattle.mdl_lexer.specs.inside.Reading.{front_of}
use Rattle.mdl_lexer.specs.inside.Tokens.{name_in, mark_in}
use Rattle.mdl_lexer.proofs.TableLaws.{reserved_is_name}
use Rattle.mdl_lexer.proofs.NumberWords.{number_alone}
use Rattle.mdl_lexer.proofs.NameWords.{name_found, name_written, name_bound}
use Rattle.mdl_lexer.proofs.WordKinds.{name_sort}
use Rattle.mdl_lexer.proofs.MarkWords.{mark_found, MarkBound, mark_bound}
use Rattle.mdl_lexer.proofs.WordKinds.{Sort, AName, AMark, ANumber, is_numbers, sort_of, sort_at, Sorted}
use Rattle.mdl_lexer.proofs.WordKinds.{by_sort, by_point, sorted}
use Rattle.mdl_lexer.proofs.AnyWord.{string_word, mark_word, ended, word_by, any_word, string_text, word_some}

abbrev is_names : Sort → Bool
is_names AName = true
is_names _ = false

-- no character is left
none_left : (rest : List ℕ) → length rest ≤ 0 → rest ≡ []
none_left [] less = refl
none_left (char ∷ rest) less = absurd (omega (arith, less))

-- a name has one kind
same_name : (form : List ℕ) (what other : Kind) → sort_of what ≡ AName → sort_of other ≡ AName →
    IsWord form what →
    IsWord form other → what ≡ other
same_name form (kind.Word a) (kind.Word b) one two is also = ap kind.Word (is.1.1 ∙ sym also.1.1)
same_name form (kind.Word a) (kind.Reserved n) one two is also = absurd (none-some n (sym is.1.0 ∙ also))
same_name form (kind.Reserved n) (kind.Word a) one two is also = absurd (none-some n (sym also.1.0 ∙ is))
same_name form (kind.Reserved n) (kind.Reserved m) one two is also =
    ap kind.Reserved (same_Some n m (sym is ∙ also))
same_name form (kind.Mark n) other one two is also = absurd (false≢true (ap is_names one))
same_name form (kind.Int n) other one two is also = absurd (false≢true (ap is_names one))
same_name form (kind.Real a d) other one two is also = absurd (false≢true (ap is_names one))
same_name form (kind.Str a) other one two is also = absurd (false≢true (ap is_names one))
same_name form what (kind.Mark n) one two is also = absurd (false≢true (ap is_names two))
same_name form what (kind.Int n) one two is also = absurd (false≢true (ap is_names two))
same_name form what (kind.Real a d) one two is also = absurd (false≢true (ap is_names two))
same_name form what (kind.Str a) one two is also = absurd (false≢true (ap is_names two))

-- a name alone is read whole
name_alone : (char : ℕ) (form : List ℕ) (what : Kind) → sort_of what ≡ AName → is_name (char ∷ form) ≡ true →
    IsWord (char ∷ form) what → name_in (char ∷ form) form ≡ (what, [])
name_alone char form what sort name is =
    let read = name_in (char ∷ form) form in
    let none : read.1 ≡ [] =
    none_left read.1 (name_bound char form (char ∷ form) [] name (sym (append-nil (char ∷ form)))) in
    let whole : front_of (char ∷ form) read.1 ≡ char ∷ form =
    sym (append-nil (front_of (char ∷ form) read.1))
    ∙ (ap (λ r. front_of (char ∷ form) read.1 ++ r) (sym none) ∙ sym (name_written char form)) in
    let also : IsWord (char ∷ form) read.0 =
    subst (λ f. IsWord f read.0) whole
    (name_found char form (and_parts (starts_name char) (list_all continues_name form) name).0) in
    let same : read.0 ≡ what = same_name (char ∷ form) read.0 what (name_sort char form) sort also is in
    ap (λ (w : Kind). (w, read.1)) same ∙ ap (λ (r : List ℕ). (what, r)) none

-- a mark alone is read whole
mark_alone : (form : List ℕ) (number : ℕ) → value_of marks form ≡ Some number →
    mark_word (mark_in form) ≡ Some (kind.Mark number, [])
mark_alone form number is = by (mark_in form) refl
  where
    bound : MarkBound (mark_in form) []
    bound = subst (λ f. MarkBound (mark_in f) []) (append-nil form) (mark_bound form [] number is)

    by : (read : Option (ℕ × List ℕ)) → mark_in form ≡ read →
        mark_word (mark_in form) ≡ Some (kind.Mark number, [])
    by None read = absurd (subst (λ o. MarkBound o []) read bound)
    by (Some mark) read =
        let none : mark.1 ≡ [] = none_left mark.1 (subst (λ o. MarkBound o []) read bound) in
        let before = mark_found form mark.0 mark.1 read in
        let whole : before.form ≡ form =
        sym (append-nil before.form) ∙ (ap (λ r. before.form ++ r) (sym none) ∙ sym before.written) in
        let same : mark.0 ≡ number =
        same_Some mark.0 number (sym before.mark ∙ (ap (value_of marks) whole ∙ is)) in
        ap mark_word read
        ∙ (ap (λ (n : ℕ). Some (kind.Mark n, mark.1)) same
        ∙ ap (λ (r : List ℕ). Some (kind.Mark number, r)) none)

-- a word alone is read whole, by its sort
alone_by : (char : ℕ) (form : List ℕ) (what : Kind) → IsWord (char ∷ form) what →
    word_by (sort_of what) char form ≡ Some (what, [])
alone_by char form (kind.Word own) is = ap Some (name_alone char form (kind.Word own) refl is.0 is)
alone_by char form (kind.Reserved number) is =
    ap Some (name_alone char form (kind.Reserved number) refl (reserved_is_name (char ∷ form) number is) is)
alone_by char form (kind.Mark number) is = mark_alone (char ∷ form) number is
alone_by char form (kind.Int value) is = ap ended (number_alone (char ∷ form) (kind.Int value) is refl)
alone_by char form (kind.Real own double) is = ap ended (number_alone (char ∷ form) (kind.Real own double) is
    refl)
alone_by char form (kind.Str own) is =
    ap string_word (string_text char form (char ∷ form) [] own is (sym (append-nil (char ∷ form))))
    ∙ ap (λ (o : List ℕ). Some (kind.Str o, [])) (sym is.bytes)

-- `.` alone is no number
no_point : (char : ℕ) (form : List ℕ) → char ∷ form ≡ 46 ∷ [] → sort_at char form ≡ ANumber → ⊥
no_point char form is sort =
    absurd (false≢true (sym (by (starts_name 46)) ∙ ap is_numbers (ap sort_of_text (sym is) ∙ sort)))
  where
    by : (b : Bool) → is_numbers (if b then AName else AMark) ≡ false
    by true = refl
    by false = refl

    sort_of_text : List ℕ → Sort
    sort_of_text [] = AMark
    sort_of_text (c ∷ t) = sort_at c t

alone_at : (char : ℕ) (form : List ℕ) (what : Kind) → IsWord (char ∷ form) what →
    Sorted char form (char ∷ form) what →
    any_word (char ∷ form) ≡ Some (what, [])
alone_at char form what is (by_sort same) = ap (λ sort. word_by sort char form) (sym same) ∙ alone_by char
    form what is
alone_at char form what is (by_point point sort) = absurd (no_point char form point sort)

-- a word alone is read whole
pub word_alone : (form : List ℕ) (what : Kind) → IsWord form what → any_word form ≡ Some (what, [])
word_alone [] what is = absurd (omega (arith, word_some [] what is))
word_alone (char ∷ form) what is =
    alone_at char form what is (sorted char form (char ∷ form) [] what is (sym (append-nil (char ∷ form))))

-- a word has one kind
pub one_kind : (form : List ℕ) (what other : Kind) → IsWord form what → IsWord form other → what ≡ other
one_kind form what other is also =
    ap (λ (w : Kind × List ℕ). w.0)
    (same_Some (what, []) (other, []) (sym (word_alone form what is) ∙ word_alone form other also))
