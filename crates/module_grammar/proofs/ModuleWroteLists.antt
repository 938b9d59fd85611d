-- Lists of a module's parts are written one by one.
use Rattle.std.proofs.Common.{◌≡◌, ◌∙◌, sym, ap, subst, refl, ℕ, Bool, true, List, [], ◌∷◌, ◌++◌}
use Rattle.std.proofs.Common.{drop, codes}
use Rattle.std.proofs.lemmas.List.{append_assoc}
use Rattle.std.specs.List.{AllByRecursion}
use Rattle.mdl_lexer.specs.Kinds.{mark_word}
use Rattle.mdl_lexer.specs.declared.token.Kind.{Kind}
use Rattle.mdl_lexer.specs.declared.token.Token.{Token}
use Rattle.mdl_syntax.specs.WrittenModules.{write_more, write_several, write_each}
use Rattle.mdl_syntax.specs.Placed.{tokens_of, behind}
use Rattle.mdl_syntax.specs.PlacedModules.{placed_each}
use Rattle.expression_grammar.specs.Readings.{kinds}
use Rattle.module_grammar.specs.inside.WroteModules.{MoreWrote, no_more, one_more, SeveralWrote}
use Rattle.module_grammar.specs.inside.WroteModules.{not_any, several, EachWrote, no_other, another}
use Rattle.expression_grammar.proofs.CutLaws.{NoTokens, no_tokens, none, First, first, cut_first, Halves}
use Rattle.expression_grammar.proofs.CutLaws.{halves, cut}
use Rattle.expression_grammar.proofs.KindLaws.{front_of, behind_front, not_empty}

-- what holds of all, and what holds of all where it is strict
pub both : {A : Type 0} (P Q : A → Type 0) (strict : Bool) (list : List A) → AllByRecursion P list →
    (strict ≡ true → AllByRecursion Q list) → AllByRecursion (λ x. P x × (strict ≡ true → Q x)) list
both P Q strict [] all plain = tt
both P Q strict (x ∷ list) all plain =
    ((all.0, λ is. (plain is).0), both P Q strict list all.1 (λ is. (plain is).1))

module _ {A : Type 0} (One : A → List Token → Type 0) (write_one : A → List Kind) (place_one : A →
    List Token → A) (Good : A → Type 0) (one_wrote : (x : A) (tokens : List Token) → Good x →
    write_one x ≡ kinds tokens → One (place_one x tokens) tokens)
  where
    placed_front : (between : ℕ) (x : A) (list : List A) (one other rest : List Token) → write_one x
        ≡ kinds one → placed_each write_one place_one between (x ∷ list) ((one ++ other) ++ rest) ≡
        place_one x one ∷ placed_each write_one place_one between list (drop between (other ++
        rest))
    placed_front between x list one other rest is =
        ap (placed_each write_one place_one between (x ∷ list)) (append_assoc one other rest) ∙ (λ
        i. place_one x (front_of (write_one x) one (other ++ rest) is i) ∷ placed_each write_one
        place_one between list (behind_front (write_one x) between one (other ++ rest) is i))

    pub more_wrote : (list : List A) (tokens rest : List Token) → AllByRecursion Good list →
        write_more write_one list ≡ kinds tokens →
        MoreWrote One (placed_each write_one place_one 1 list (drop 1 (tokens ++ rest))) tokens
    more_wrote [] tokens rest good is = by tokens (none is)
      where
        by : (tokens : List Token) → NoTokens tokens → MoreWrote One [] tokens
        by tokens no_tokens = no_more
    more_wrote (x ∷ list) tokens rest good is = by (λ other. more_wrote list other rest good.1)
        tokens (cut_first is)
      where
        Others : Type 0
        Others = (other : List Token) → write_more write_one list ≡ kinds other →
            MoreWrote One (placed_each write_one place_one 1 list (drop 1 (other ++ rest))) other

        inner : Others → (comma : Token) (others : List Token) → comma.kind ≡ mark_word (codes ",")
            → Halves (write_one x) (write_more write_one list) others → MoreWrote One (placed_each
            write_one place_one 1 (x ∷ list) (others ++ rest)) (comma ∷ others)
        inner more comma others divides (halves one other front back) =
            subst (λ list. MoreWrote One list (comma ∷ (one ++ other))) (sym (placed_front 1 x list
            one other rest front)) (one_more comma (place_one x one) (placed_each write_one
            place_one 1 list (drop 1 (other ++ rest))) one other (record { is = divides })
            (one_wrote x one good.0 front) (more other back))

        by : Others → (tokens : List Token) →
            First (mark_word (codes ",")) (write_one x ++ write_more write_one list) tokens →
            MoreWrote One (placed_each write_one place_one 1 (x ∷ list) (drop 1 (tokens ++ rest)))
            tokens
        by more tokens (first comma others divides others_are) = inner more comma others divides
            (cut others_are)

    pub several_wrote : (list : List A) (tokens rest : List Token) → AllByRecursion Good list →
        write_several write_one list ≡ kinds tokens →
        SeveralWrote One (placed_each write_one place_one 1 list (tokens ++ rest)) tokens
    several_wrote [] tokens rest good is = by tokens (none is)
      where
        by : (tokens : List Token) → NoTokens tokens → SeveralWrote One [] tokens
        by tokens no_tokens = not_any
    several_wrote (x ∷ list) tokens rest good is = by tokens (cut is)
      where
        by : (tokens : List Token) → Halves (write_one x) (write_more write_one list) tokens →
            SeveralWrote One (placed_each write_one place_one 1 (x ∷ list) (tokens ++ rest)) tokens
        by tokens (halves one other front back) =
            subst (λ list. SeveralWrote One list (one ++ other)) (sym (placed_front 1 x list one
            other rest front)) (several (place_one x one) (placed_each write_one place_one 1 list
            (drop 1 (other ++ rest))) one other (one_wrote x one good.0 front) (more_wrote list
            other rest good.1 back))

    pub each_wrote : (list : List A) (tokens rest : List Token) → AllByRecursion Good list →
        write_each write_one list ≡ kinds tokens →
        EachWrote One (placed_each write_one place_one 0 list (tokens ++ rest)) tokens
    each_wrote [] tokens rest good is = by tokens (none is)
      where
        by : (tokens : List Token) → NoTokens tokens → EachWrote One [] tokens
        by tokens no_tokens = no_other
    each_wrote (x ∷ list) tokens rest good is = by (λ other. each_wrote list other rest good.1)
        tokens (cut is)
      where
        Others : Type 0
        Others = (other : List Token) → write_each write_one list ≡ kinds other →
            EachWrote One (placed_each write_one place_one 0 list (other ++ rest)) other

        by : Others → (tokens : List Token) → Halves (write_one x) (write_each write_one list)
            tokens → EachWrote One (placed_each write_one place_one 0 (x ∷ list) (tokens ++ rest))
            tokens
        by more tokens (halves one other front back) =
            subst (λ list. EachWrote One list (one ++ other)) (sym (placed_front 0 x list one other
            rest front)) (another (place_one x one) (placed_each write_one place_one 0 list (other
            ++ rest)) one other (one_wrote x one good.0 front) (more other back))

-- a list that is placed is none where it was none
pub still_some : {A : Type 0} (write_one : A → List Kind) (place_one : A → List Token → A) (between
    : ℕ) (list : List A) (tokens : List Token) → (list ≡ [] → ⊥) → placed_each write_one place_one
    between list tokens ≡ [] → ⊥
still_some write_one place_one between [] tokens some is = some refl
still_some write_one place_one between (x ∷ list) tokens some is =
    not_empty (place_one x (tokens_of (write_one x) tokens)) (placed_each write_one place_one
    between list (behind (write_one x) between tokens)) is
