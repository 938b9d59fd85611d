-- Reading the options agrees with what they are.
use Rattle.std.proofs.Common.{◌≡◌, ◌≢◌, ℕ, cond, Bool, true, false}
use Rattle.std.proofs.Common.{List, [], ◌∷◌, ◌++◌, Some, None, codes, take, drop}
use Rattle.std.proofs.Common.{nat_eq, refl, sym, ap, ◌∙◌, subst}
use Rattle.std.specs.List.{starts_with}
use Rattle.std.specs.Str.{bytes_eq}
use Rattle.std.specs.Cmp.Lexicographic.{bytes_decides}
use Rattle.std.proofs.lemmas.Bool.{cond-true, cond-false, true≢false, false_from_ne_true}
use Rattle.std.proofs.lemmas.List.{append_assoc, append-nil, take-append-drop}
use Rattle.std.proofs.lemmas.Option.{same_Some, none-some}
use Rattle.command_words.specs.Requests.{is_option, workers_word, Sorted}
use Rattle.command_words.specs.Requests.Sorted.{no_words, ends, plain, apart, joined}
use Rattle.command_words.specs.inside.Options.{workers_equals, option_in, sorted_onto, value_onto}

-- the two ways of a choice
pub choice : {A P : Type 0} (b : Bool) (x y z : A) → cond b x y ≡ z → (b ≡ true → x ≡ z → P)
    → (b ≡ false → y ≡ z → P) → P
choice true x y z e on_true on_false = on_true refl e
choice false x y z e on_true on_false = on_false refl e

abbrev end_word : List ℕ
end_word = codes "--"

-- lists of bytes that are told the same are the same
pub same_bytes : (a b : List ℕ) → bytes_eq a b ≡ true → a ≡ b
same_bytes a b h = (bytes_decides a b).0 h

-- and others are told apart
pub other_bytes : (a b : List ℕ) → a ≢ b → bytes_eq a b ≡ false
other_bytes a b h = false_from_ne_true (bytes_eq a b) (λ e. h ((bytes_decides a b).0 e))

-- a word that isn't an option is neither the end of options nor an option of workers
not_end : (word : List ℕ) → is_option word ≡ false → bytes_eq word end_word ≡ false
not_end word h =
    other_bytes word end_word (λ e. true≢false (subst (λ w. is_option w ≡ false) e h))

-- a word that begins with `--workers=`, and what stands behind it
joined_word : (word : List ℕ) → starts_with nat_eq word workers_equals ≡ true →
    workers_equals ++ drop 10 word ≡ word
joined_word word h =
    ap (λ l. l ++ drop 10 word) ((bytes_decides workers_equals (take 10 word)).0 h) ∙ take-append-drop 10 word

-- what is read behind values and other words is sorted so
pub record Reads (values others words : List (List ℕ)) (both : List (List ℕ) × List (List ℕ)) : Type 0 where
  pub own_values : List (List ℕ)
  pub own_others : List (List ℕ)
  pub sorted : Sorted words own_values own_others
  pub values_are : both.0 ≡ values ++ own_values
  pub others_are : both.1 ≡ others ++ own_others

-- one more other word
reads_plain : (values others words : List (List ℕ)) (both : List (List ℕ) × List (List ℕ)) (word : List ℕ) →
    is_option word ≡ false → Reads values (others ++ word ∷ []) words both → Reads values others (word ∷ words) both
reads_plain values others words both word h r = record {
  own_values = r.own_values;
  own_others = word ∷ r.own_others;
  sorted = plain word words r.own_values r.own_others h r.sorted;
  values_are = r.values_are;
  others_are = r.others_are ∙ append_assoc others (word ∷ []) r.own_others;
}

-- one more value
reads_apart : (values others words : List (List ℕ)) (both : List (List ℕ) × List (List ℕ)) (value : List ℕ) →
    Reads (values ++ value ∷ []) others words both → Reads values others (workers_word ∷ value ∷ words) both
reads_apart values others words both value r = record {
  own_values = value ∷ r.own_values;
  own_others = r.own_others;
  sorted = apart value words r.own_values r.own_others r.sorted;
  values_are = r.values_are ∙ append_assoc values (value ∷ []) r.own_values;
  others_are = r.others_are;
}

reads_joined : (values others words : List (List ℕ)) (both : List (List ℕ) × List (List ℕ)) (value : List ℕ) →
    Reads (values ++ value ∷ []) others words both
    → Reads values others ((workers_equals ++ value) ∷ words) both
reads_joined values others words both value r = record {
  own_values = value ∷ r.own_values;
  own_others = r.own_others;
  sorted = joined value words r.own_values r.own_others r.sorted;
  values_are = r.values_are ∙ append_assoc values (value ∷ []) r.own_values;
  others_are = r.others_are;
}

-- the words end
reads_none : (values others : List (List ℕ)) → Reads values others [] (values, others)
reads_none values others = record {
  own_values = [];
  own_others = [];
  sorted = no_words;
  values_are = sym (append-nil values);
  others_are = sym (append-nil others);
}

-- the options end
reads_end : (values others words : List (List ℕ)) → Reads values others (end_word ∷ words) (values, others ++ words)
reads_end values others words = record {
  own_values = [];
  own_others = words;
  sorted = ends words;
  values_are = sym (append-nil values);
  others_are = refl;
}

mutual
  unfolding sorted_onto value_onto

  pub sorted_sound : (words values others : List (List ℕ)) (both : List (List ℕ) × List (List ℕ)) →
      sorted_onto values others words ≡ Some both → Reads values others words both
  sorted_sound [] values others both e =
      subst (Reads values others []) (same_Some (values, others) both e) (reads_none values others)
  sorted_sound (word ∷ words) values others both e =
      let plainly = sorted_onto values (others ++ word ∷ []) words in
      let value_joined = sorted_onto (values ++ drop 10 word ∷ []) others words in
      let equals = cond (starts_with nat_eq word workers_equals) value_joined None in
      let optional = cond (bytes_eq word workers_word) (value_onto values others words) equals in
      choice (bytes_eq word end_word) (Some (values, others ++ words)) (cond (is_option word) optional plainly)
      (Some both) e
      (λ is_end found.
      subst (λ w. Reads values others (w ∷ words) both) (sym (same_bytes word end_word is_end))
      (subst (Reads values others (end_word ∷ words)) (same_Some (values, others ++ words) both found)
      (reads_end values others words)))
      (λ not_the_end found.
      choice (is_option word) optional plainly (Some both) found
      (λ option first.
      choice (bytes_eq word workers_word) (value_onto values others words) equals (Some both) first
      (λ is_word second.
      subst (λ w. Reads values others (w ∷ words) both) (sym (same_bytes word workers_word is_word))
      (value_sound words values others both second))
      (λ not_word second.
      choice (starts_with nat_eq word workers_equals) value_joined None (Some both) second
      (λ begins third.
      subst (λ w. Reads values others (w ∷ words) both) (joined_word word begins)
      (reads_joined values others words both (drop 10 word)
      (sorted_sound words (values ++ drop 10 word ∷ []) others both third)))
      (λ unknown third. absurd (none-some both third))))
      (λ no_option first.
      reads_plain values others words both word no_option
      (sorted_sound words values (others ++ word ∷ []) both first)))

  pub value_sound : (words values others : List (List ℕ)) (both : List (List ℕ) × List (List ℕ)) →
      value_onto values others words ≡ Some both → Reads values others (workers_word ∷ words) both
  value_sound [] values others both e = absurd (none-some both e)
  value_sound (value ∷ words) values others both e =
      reads_apart values others words both value (sorted_sound words (values ++ value ∷ []) others both e)

-- the words end
pub onto_none : (values others : List (List ℕ)) → sorted_onto values others [] ≡ Some (values, others)
unfolding sorted_onto
onto_none values others = refl

-- the options end
pub onto_end : (values others words : List (List ℕ)) (word : List ℕ) → bytes_eq word (codes "--") ≡ true →
    sorted_onto values others (word ∷ words) ≡ Some (values, others ++ words)
unfolding sorted_onto
onto_end values others words word h = cond-true (bytes_eq word (codes "--")) _ _ h

-- one more other word
pub onto_plain : (values others words : List (List ℕ)) (word : List ℕ) → is_option word ≡ false →
    sorted_onto values others (word ∷ words) ≡ sorted_onto values (others ++ word ∷ []) words
unfolding sorted_onto
onto_plain values others words word h =
    cond-false (bytes_eq word (codes "--")) _ _ (not_end word h) ∙ cond-false (is_option word) _ _ h

-- one more value, where it stands apart
onto_apart : (values others words : List (List ℕ)) (word : List ℕ) → bytes_eq word (codes "--") ≡ false →
    is_option word ≡ true → bytes_eq word workers_word ≡ true →
    sorted_onto values others (word ∷ words) ≡ value_onto values others words
unfolding sorted_onto
onto_apart values others words word no_end option h =
    cond-false (bytes_eq word (codes "--")) _ _ no_end
    ∙ (cond-true (is_option word) _ _ option ∙ cond-true (bytes_eq word workers_word) _ _ h)

-- one more value, where it is joined
onto_joined : (values others words : List (List ℕ)) (word : List ℕ) → bytes_eq word (codes "--") ≡ false →
    is_option word ≡ true → bytes_eq word workers_word ≡ false → starts_with nat_eq word workers_equals ≡ true →
    sorted_onto values others (word ∷ words) ≡ sorted_onto (values ++ drop 10 word ∷ []) others words
unfolding sorted_onto
onto_joined values others words word no_end option no_word h =
    cond-false (bytes_eq word (codes "--")) _ _ no_end
    ∙ (cond-true (is_option word) _ _ option
    ∙ (cond-false (bytes_eq word workers_word) _ _ no_word
    ∙ cond-true (starts_with nat_eq word workers_equals) _ _ h))

-- an unknown option
onto_unknown : (values others words : List (List ℕ)) (word : List ℕ) → bytes_eq word (codes "--") ≡ false →
    is_option word ≡ true → bytes_eq word workers_word ≡ false → starts_with nat_eq word workers_equals ≡ false →
    sorted_onto values others (word ∷ words) ≡ None
unfolding sorted_onto
onto_unknown values others words word no_end option no_word h =
    cond-false (bytes_eq word (codes "--")) _ _ no_end
    ∙ (cond-true (is_option word) _ _ option
    ∙ (cond-false (bytes_eq word workers_word) _ _ no_word
    ∙ cond-false (starts_with nat_eq word workers_equals) _ _ h))

-- words that are sorted so are read so
pub sorted_complete : (values others words own_values own_others : List (List ℕ)) →
    Sorted words own_values own_others →
    sorted_onto values others words ≡ Some (values ++ own_values, others ++ own_others)
unfolding sorted_onto value_onto
sorted_complete values others words own_values own_others no_words =
    λ i. Some (sym (append-nil values) i, sym (append-nil others) i)
sorted_complete values others words own_values own_others (ends rest) =
    λ i. Some (sym (append-nil values) i, others ++ rest)
sorted_complete values others words own_values own_others (plain word rest own more h s) =
    onto_plain values others rest word h
    ∙ (sorted_complete values (others ++ word ∷ []) rest own more s
    ∙ ap (λ l. Some (values ++ own, l)) (append_assoc others (word ∷ []) more))
sorted_complete values others words own_values own_others (apart value rest own more s) =
    sorted_complete (values ++ value ∷ []) others rest own more s
    ∙ ap (λ l. Some (l, others ++ more)) (append_assoc values (value ∷ []) own)
sorted_complete values others words own_values own_others (joined value rest own more s) =
    sorted_complete (values ++ value ∷ []) others rest own more s
    ∙ ap (λ l. Some (l, others ++ more)) (append_assoc values (value ∷ []) own)

-- the value of the option that comes first, and what is left
pub onto_option : (values others words : List (List ℕ)) (word : List ℕ) (found : List ℕ × List (List ℕ)) →
    bytes_eq word (codes "--") ≡ false → is_option word ≡ true → option_in word words ≡ Some found →
    sorted_onto values others (word ∷ words) ≡ sorted_onto (values ++ found.0 ∷ []) others found.1
unfolding option_in value_onto
onto_option values others [] word found no_end option e =
    choice (bytes_eq word workers_word) None
    (cond (starts_with nat_eq word workers_equals) (Some (drop 10 word, [])) None) (Some found) e
    (λ is_word first. absurd (none-some found first))
    (λ no_word first.
    choice (starts_with nat_eq word workers_equals) (Some (drop 10 word, [])) None (Some found) first
    (λ begins second.
    onto_joined values others [] word no_end option no_word begins
    ∙ ap (λ (p : List ℕ × List (List ℕ)). sorted_onto (values ++ p.0 ∷ []) others p.1)
    (same_Some (drop 10 word, []) found second))
    (λ unknown second. absurd (none-some found second)))
onto_option values others (next ∷ words) word found no_end option e =
    choice (bytes_eq word workers_word) (Some (next, words))
    (cond (starts_with nat_eq word workers_equals) (Some (drop 10 word, next ∷ words)) None) (Some found) e
    (λ is_word first.
    onto_apart values others (next ∷ words) word no_end option is_word
    ∙ ap (λ (p : List ℕ × List (List ℕ)). sorted_onto (values ++ p.0 ∷ []) others p.1)
    (same_Some (next, words) found first))
    (λ no_word first.
    choice (starts_with nat_eq word workers_equals) (Some (drop 10 word, next ∷ words)) None (Some found) first
    (λ begins second.
    onto_joined values others (next ∷ words) word no_end option no_word begins
    ∙ ap (λ (p : List ℕ × List (List ℕ)). sorted_onto (values ++ p.0 ∷ []) others p.1)
    (same_Some (drop 10 word, next ∷ words) found second))
    (λ unknown second. absurd (none-some found second)))

-- the option that comes first has no value
pub onto_no_option : (values others words : List (List ℕ)) (word : List ℕ) →
    bytes_eq word (codes "--") ≡ false → is_option word ≡ true → option_in word words ≡ None →
    sorted_onto values others (word ∷ words) ≡ None
unfolding option_in value_onto
onto_no_option values others [] word no_end option e =
    choice (bytes_eq word workers_word) None
    (cond (starts_with nat_eq word workers_equals) (Some (drop 10 word, [])) None) None e
    (λ is_word first. onto_apart values others [] word no_end option is_word)
    (λ no_word first.
    choice (starts_with nat_eq word workers_equals) (Some (drop 10 word, [])) None None first
    (λ begins second. absurd (none-some (drop 10 word, []) (sym second)))
    (λ unknown second. onto_unknown values others [] word no_end option no_word unknown))
onto_no_option values others (next ∷ words) word no_end option e =
    choice (bytes_eq word workers_word) (Some (next, words))
    (cond (starts_with nat_eq word workers_equals) (Some (drop 10 word, next ∷ words)) None) None e
    (λ is_word first. absurd (none-some (next, words) (sym first)))
    (λ no_word first.
    choice (starts_with nat_eq word workers_equals) (Some (drop 10 word, next ∷ words)) None None first
    (λ begins second. absurd (none-some (drop 10 word, next ∷ words) (sym second)))
    (λ unknown second. onto_unknown values others (next ∷ words) word no_end option no_word unknown))
