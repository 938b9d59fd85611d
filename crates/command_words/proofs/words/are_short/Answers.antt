use Rattle.std.proofs.Common.{◌≡◌, ◌∙◌, ◌&&◌, ◌<◌, ◌+◌, ℕ, Bool, true, false, List, sym, ap, map, string_bytes}
use Rattle.std.proofs.Common.{drop, length, get_or, arith}
use Rattle.std.specs.List.{list_all}
use Rattle.std.specs.declared.string.String.{String}
use Rattle.std.specs.declared.alloc.Global.{Global}
use Rattle.std.proofs.lemmas.List.{drop_more, drop_all}
use Rattle.command_words.specs.inside.Reading.{is_short}
use Rattle.command_words.proofs.words.are_short.Goals as goal

-- whether the words that are left are short
abbrev left_short : List (String Global) → ℕ → Bool
left_short words i = list_all is_short (map string_bytes (drop i words))

-- the word at a place, and then those that are left behind it
left_more : (words : List (String Global)) (i : ℕ) (word : String Global) → i < length words →
    word ≡ get_or words i word → left_short words i ≡ (is_short (string_bytes word) && left_short words (i + 1))
left_more words i word within is =
    ap (λ left. list_all is_short (map string_bytes left)) (drop_more words i word within)
    ∙ ap (λ first. is_short (string_bytes first) && left_short words (i + 1)) (sym is)

pub returns-then-not-is_short : goal.returns-then-not-is_short
returns-then-not-is_short c =
    let long : is_short (string_bytes c.word-item.result) ≡ false =
    ap is_short (sym c.as_str.ensures.value) ∙ sym c.if-not-is_short.ensures in
    sym (ap (λ b. b && left_short c.args.words.now (c.loop-word.word-index + 1)) long)
    ∙ (sym (left_more c.args.words.now c.loop-word.word-index c.word-item.result (omega arith) c.word-item.is)
    ∙ c.loop-word.invariant)

pub loop-word-preserved : goal.loop-word-preserved
loop-word-preserved c =
    let short : is_short (string_bytes c.word-item.result) ≡ true =
    ap is_short (sym c.as_str.ensures.value) ∙ sym c.if-not-is_short.ensures in
    sym (ap (λ b. b && left_short c.args.words.now (c.loop-word.word-index + 1)) short)
    ∙ (sym (left_more c.args.words.now c.loop-word.word-index c.word-item.result (omega arith) c.word-item.is)
    ∙ c.loop-word.invariant)

pub returns : goal.returns
returns c =
    sym (ap (λ left. list_all is_short (map string_bytes left))
    (drop_all c.loop-word.word-index c.args.words.now (omega arith)))
    ∙ c.loop-word.invariant
