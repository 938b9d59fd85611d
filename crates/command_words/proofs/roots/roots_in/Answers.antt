use Rattle.std.proofs.Common.{rules, ◌≡◌, ◌≢◌, ◌<◌, ◌++◌, ◌∷◌, [], ◌∙◌, ap, sym, true, false, List, ℕ}
use Rattle.std.proofs.Common.{Some, None, length, arith, get_or, Bor}
use Rattle.std.proofs.lemmas.Str.Pattern.{split_parts}
use Rattle.command_words.specs.inside.Roots.{pieces_of, is_next, roots_onto, roots_in}
use Rattle.command_words.proofs.RootLaws.{next_root, no_next_root, last_root, split_piece, whole_piece}
use Rattle.command_words.proofs.roots.roots_in.Goals as goal

-- a piece of what is left, and what is behind its `:`
abbrev IsCut : List ℕ → Bor (List ℕ) → Bor (List ℕ) → Type 0
IsCut text piece behind =
    (text ≡ piece.now ++ 58 ∷ behind.now) × ((i : ℕ) → i < length piece.now → get_or piece.now i 0 ≢ 58)

pub loop-root-init : goal.loop-root-init
unfolding roots_in
loop-root-init c = (c.utf8.word, ap (λ roots. roots_onto roots (pieces_of c.args.word.now)) c.new-roots.ensures.items)

pub returns-then-not-is_next : goal.returns-then-not-is_next
returns-then-not-is_next c =
    let cut : IsCut c.loop-root.rest.now c.in-Some.root c.in-Some.behind =
    split_parts 58 c.loop-root.rest.now (Some (c.in-Some.root, c.in-Some.behind)) c.in-Some.ensures.cases
    (omega arith) in
    let no_next : is_next c.loop-root.roots.items c.in-Some.root.now ≡ false =
    ap (λ roots. is_next roots c.in-Some.root.now) (sym c.deref.ensures.value) ∙ sym c.if-not-is_next.ensures in
    sym (no_next_root c.loop-root.roots.items (pieces_of c.in-Some.behind.now) c.in-Some.root.now no_next)
    ∙ (ap (roots_onto c.loop-root.roots.items)
    (sym (split_piece c.loop-root.rest.now c.in-Some.root.now c.in-Some.behind.now cut.0 cut.1))
    ∙ c.loop-root.invariant.1)

pub loop-root-preserved : goal.loop-root-preserved
loop-root-preserved c =
    let cut : IsCut c.loop-root.rest.now c.in-Some.root c.in-Some.behind =
    split_parts 58 c.loop-root.rest.now (Some (c.in-Some.root, c.in-Some.behind)) c.in-Some.ensures.cases
    (omega arith) in
    let next : is_next c.loop-root.roots.items c.in-Some.root.now ≡ true =
    ap (λ roots. is_next roots c.in-Some.root.now) (sym c.deref.ensures.value) ∙ sym c.if-not-is_next.ensures in
    let pushed : c.push.new.self.items ≡ c.loop-root.roots.items ++ c.in-Some.root.now ∷ [] =
    ◌∙◌ {A = List (List ℕ)} c.in_ok-push.ensures.items
    (ap (λ root. c.loop-root.roots.items ++ root ∷ []) c.in_ok-copy.ensures) in (
      search rules,
      ap (λ roots. roots_onto roots (pieces_of c.in-Some.behind.now)) pushed
          ∙ (sym (next_root c.loop-root.roots.items (pieces_of c.in-Some.behind.now) c.in-Some.root.now next)
          ∙ (ap (roots_onto c.loop-root.roots.items)
          (sym (split_piece c.loop-root.rest.now c.in-Some.root.now c.in-Some.behind.now cut.0 cut.1))
          ∙ c.loop-root.invariant.1)),
    )

pub returns-then-not-is_next-2 : goal.returns-then-not-is_next-2
returns-then-not-is_next-2 c =
    let whole : (i : ℕ) → i < length c.loop-root.rest.now → get_or c.loop-root.rest.now i 0 ≢ 58 =
    split_parts 58 c.loop-root.rest.now None c.in_default.ensures.cases (omega arith) in
    let no_next : is_next c.loop-root.roots.items c.loop-root.rest.now ≡ false =
    ap (λ roots. is_next roots c.loop-root.rest.now) (sym c.deref-2.ensures.value) ∙ sym c.if-not-is_next-2.ensures in
    sym (no_next_root c.loop-root.roots.items [] c.loop-root.rest.now no_next)
    ∙ (ap (roots_onto c.loop-root.roots.items) (sym (whole_piece c.loop-root.rest.now whole))
    ∙ c.loop-root.invariant.1)

pub returns : goal.returns
returns c =
    let whole : (i : ℕ) → i < length c.loop-root.rest.now → get_or c.loop-root.rest.now i 0 ≢ 58 =
    split_parts 58 c.loop-root.rest.now None c.in_default.ensures.cases (omega arith) in
    let next : is_next c.loop-root.roots.items c.loop-root.rest.now ≡ true =
    ap (λ roots. is_next roots c.loop-root.rest.now) (sym c.deref-2.ensures.value) ∙ sym c.if-not-is_next-2.ensures in
    let pushed : c.of.result ≡ c.loop-root.roots.items ++ c.loop-root.rest.now ∷ [] =
    c.of.ensures
    ∙ (c.in_ok-push-2.ensures.items ∙ ap (λ root. c.loop-root.roots.items ++ root ∷ []) c.in_ok-copy-2.ensures) in
    ap Some pushed
    ∙ (sym (last_root (c.loop-root.roots.items ++ c.loop-root.rest.now ∷ []))
    ∙ (sym (next_root c.loop-root.roots.items [] c.loop-root.rest.now next)
    ∙ (ap (roots_onto c.loop-root.roots.items) (sym (whole_piece c.loop-root.rest.now whole))
    ∙ c.loop-root.invariant.1)))
