use Rattle.std.proofs.Common.{◌≡◌, ◌++◌, ◌∷◌, [], ◌∙◌, ap, sym, true, false, List, ℕ, Option, Some, None}
use Rattle.std.proofs.Common.{map, string_bytes, codes, length, arith, Bor}
use Rattle.std.proofs.lemmas.List.{map_push}
use Rattle.std.specs.Str.{bytes_eq}
use Rattle.std.specs.declared.string.String.{String}
use Rattle.std.specs.declared.alloc.Global.{Global}
use Rattle.command_words.specs.Requests.{is_option}
use Rattle.command_words.specs.inside.Options.{sorted_onto, option_in}
use Rattle.command_words.specs.inside.Views.{words_of}
use Rattle.command_words.proofs.OptionLaws.{onto_none, onto_end, onto_plain, onto_option, onto_no_option}
use Rattle.command_words.proofs.options.sort_words.Goals as goal

-- what is read of words, of which one is the first
left : (values others : List (List ℕ)) (all : Option (List (List ℕ) × List (List ℕ)))
    (rest behind : List (String Global)) (word : String Global) → rest ≡ word ∷ behind →
    sorted_onto values others (map string_bytes rest) ≡ all →
    sorted_onto values others (string_bytes word ∷ map string_bytes behind) ≡ all
left values others all rest behind word is h =
    ap (λ words. sorted_onto values others (map string_bytes words)) (sym is) ∙ h

-- what is read of no words
none_left : (values others : List (List ℕ)) (all : Option (List (List ℕ) × List (List ℕ)))
    (rest : List (String Global)) → length rest ≡ 0 →
    sorted_onto values others (map string_bytes rest) ≡ all → Some (values, others) ≡ all
none_left values others all [] is h = sym (onto_none values others) ∙ h
none_left values others all (word ∷ rest) is h = absurd (omega arith)

pub returns-then-eq : goal.returns-then-eq
returns-then-eq c =
    let values = words_of c.loop-word.values.items in
    let others = words_of c.loop-word.others.items in
    let behind = map string_bytes c.in-Some.behind.now in
    let is_end : bytes_eq (string_bytes c.in-Some.word.now) (codes "--") ≡ true =
    ap (λ word. bytes_eq word (codes "--")) (sym c.as_str.ensures.value) ∙ sym c.if-eq.ensures in
    ap (λ words. Some (values, words)) c.in_ok-push_words.ensures
    ∙ (sym (onto_end values others behind (string_bytes c.in-Some.word.now) is_end)
    ∙ left values others _ c.loop-word.rest.now c.in-Some.behind.now c.in-Some.word.now c.in-Some.ensures.cases.0
    c.loop-word.invariant)

pub returns-in_default-option_in : goal.returns-in_default-option_in
returns-in_default-option_in c =
    let values = words_of c.loop-word.values.items in
    let others = words_of c.loop-word.others.items in
    let behind = map string_bytes c.in-Some.behind.now in
    let no_end : bytes_eq (string_bytes c.in-Some.word.now) (codes "--") ≡ false =
    ap (λ word. bytes_eq word (codes "--")) (sym c.as_str.ensures.value) ∙ sym c.if-eq.ensures in
    let option : is_option (string_bytes c.in-Some.word.now) ≡ true =
    ap is_option (sym c.as_bytes.ensures.value) ∙ sym c.if-is_option.ensures in
    let missing : option_in (string_bytes c.in-Some.word.now) behind ≡ None =
    ap (λ word. option_in word behind) (sym c.as_str-then-is_option.ensures.value)
    ∙ sym c.in_default-option_in.ensures.value in
    sym (onto_no_option values others behind (string_bytes c.in-Some.word.now) no_end option missing)
    ∙ left values others _ c.loop-word.rest.now c.in-Some.behind.now c.in-Some.word.now c.in-Some.ensures.cases.0
    c.loop-word.invariant

pub loop-word-preserved-then-is_option : goal.loop-word-preserved-then-is_option
loop-word-preserved-then-is_option c =
    let values = words_of c.loop-word.values.items in
    let others = words_of c.loop-word.others.items in
    let behind = map string_bytes c.in-Some.behind.now in
    let left_over = map string_bytes c.in-Some-option_in.behind_value.now in
    let no_end : bytes_eq (string_bytes c.in-Some.word.now) (codes "--") ≡ false =
    ap (λ word. bytes_eq word (codes "--")) (sym c.as_str.ensures.value) ∙ sym c.if-eq.ensures in
    let option : is_option (string_bytes c.in-Some.word.now) ≡ true =
    ap is_option (sym c.as_bytes.ensures.value) ∙ sym c.if-is_option.ensures in
    let found : option_in (string_bytes c.in-Some.word.now) behind
    ≡ Some (c.in-Some-option_in.value.now, left_over) =
    ap (λ word. option_in word behind) (sym c.as_str-then-is_option.ensures.value)
    ∙ sym c.in-Some-option_in.ensures.value in
    let pushed : words_of c.push.new.self.items ≡ values ++ c.in-Some-option_in.value.now ∷ [] =
    ap words_of c.in_ok-push.ensures.items
    ∙ map_push (λ (word : Bor (List ℕ)). word.now) c.loop-word.values.items c.in-Some-option_in.value in
    ap (λ words. sorted_onto words others left_over) pushed
    ∙ (sym (onto_option values others behind (string_bytes c.in-Some.word.now)
    (c.in-Some-option_in.value.now, left_over) no_end option found)
    ∙ left values others _ c.loop-word.rest.now c.in-Some.behind.now c.in-Some.word.now c.in-Some.ensures.cases.0
    c.loop-word.invariant)

pub loop-word-preserved : goal.loop-word-preserved
loop-word-preserved c =
    let values = words_of c.loop-word.values.items in
    let others = words_of c.loop-word.others.items in
    let behind = map string_bytes c.in-Some.behind.now in
    let no_option : is_option (string_bytes c.in-Some.word.now) ≡ false =
    ap is_option (sym c.as_bytes.ensures.value) ∙ sym c.if-is_option.ensures in
    let pushed : words_of c.push-else-is_option.new.self.items ≡ others ++ string_bytes c.in-Some.word.now ∷ [] =
    ap words_of c.in_ok-push-2.ensures.items
    ∙ (map_push (λ (word : Bor (List ℕ)). word.now) c.loop-word.others.items c.as_str-else-is_option.result
    ∙ ap (λ word. others ++ word ∷ []) c.as_str-else-is_option.ensures.value) in
    ap (λ words. sorted_onto values words behind) pushed
    ∙ (sym (onto_plain values others behind (string_bytes c.in-Some.word.now) no_option)
    ∙ left values others _ c.loop-word.rest.now c.in-Some.behind.now c.in-Some.word.now c.in-Some.ensures.cases.0
    c.loop-word.invariant)

pub returns : goal.returns
returns c =
    none_left (words_of c.loop-word.values.items) (words_of c.loop-word.others.items) _ c.loop-word.rest.now
    c.in_default.ensures.cases c.loop-word.invariant
