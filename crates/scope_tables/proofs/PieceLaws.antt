-- Laws of what comes to the end of a piece.
use Rattle.std.proofs.Common.{◌≡◌, ◌++◌, ◌∷◌, [], ◌<◌, ◌∙◌, ◌+◌, ℕ, suc, Bool, List, map, drop, get_or, length}
use Rattle.std.proofs.Common.{sym, ap, subst, arith}
use Rattle.std.proofs.Common.{drop-cons}
use Rattle.std.proofs.lemmas.List.{append_assoc}
use Rattle.mdl_syntax.specs.declared.declarations.EnumItem.{EnumItem}
use Rattle.mdl_syntax.specs.declared.declarations.Decl.{Decl}
use Rattle.mdl_syntax.specs.Modules.{declaration_of, enum_value_of}
use Rattle.scope_tables.specs.declared.declared.Piece.{Piece}
use Rattle.scope_tables.specs.Entities.{Declared, numbered, a_value, values_from, declared, declared_from}
use Rattle.scope_tables.specs.inside.Pieces.{IsPiece, Appends, ValuesLeft, DeclarationsLeft}

pub appends_both : (one other : List Declared) (a b c : Piece) → Appends one a b → Appends other b c
    → Appends (one ++ other) a c
appends_both one other a b c first second = record {
  comes = λ all is. subst (λ l. IsPiece l c) (append_assoc all one other)
      (second.comes (all ++ one) (first.comes all is));
}

-- one more value
pub values_more : (m d p : ℕ) (exported : Bool) (group : List ℕ) (values : List EnumItem) (before now after : Piece)
    (i : ℕ) (value : EnumItem) → ValuesLeft m d p exported group values before now i → i < length values
    → value ≡ get_or values i value
    → Appends (a_value (numbered m d (p + i)) exported group (enum_value_of value) ∷ []) now after
    → ValuesLeft m d p exported group values before after (i + 1)
values_more m d p exported group values before now after i value left within is more = record {
  done = left.done ++ one ∷ [];
  came = appends_both left.done (one ∷ []) before now after left.came more;
  whole = append_assoc left.done (one ∷ []) (rest (p + (i + 1)) (i + 1)) ∙ ap (λ l. left.done ++ l) step ∙ left.whole;
}
  where
    one : Declared
    one = a_value (numbered m d (p + i)) exported group (enum_value_of value)

    rest : ℕ → ℕ → List Declared
    rest q j = values_from m d q exported group (map enum_value_of (drop j values))

    step : one ∷ rest (p + (i + 1)) (i + 1) ≡ rest (p + i) i
    step =
        let e : p + (i + 1) ≡ suc (p + i) = omega arith in
        let f : i + 1 ≡ suc i = omega arith in
        (λ k. one ∷ rest (e k) (f k))
        ∙ sym (ap (λ l. values_from m d (p + i) exported group (map enum_value_of l))
        (drop-cons values i value within ∙ ap (λ v. v ∷ drop (suc i) values) (sym is)))

-- one more declaration
pub declarations_more : (m : ℕ) (decls : List Decl) (now after : Piece) (i : ℕ) (decl : Decl)
    → DeclarationsLeft m decls now i → i < length decls → decl ≡ get_or decls i decl
    → Appends (declared m i (declaration_of decl)) now after → DeclarationsLeft m decls after (i + 1)
declarations_more m decls now after i decl left within is more = record {
  done = left.done ++ declared m i (declaration_of decl);
  is = more.comes left.done left.is;
  whole =
      append_assoc left.done (declared m i (declaration_of decl)) (rest (i + 1) (i + 1))
      ∙ ap (λ l. left.done ++ l) step ∙ left.whole;
}
  where
    rest : ℕ → ℕ → List Declared
    rest q j = declared_from m q (map declaration_of (drop j decls))

    step : declared m i (declaration_of decl) ++ rest (i + 1) (i + 1) ≡ rest i i
    step =
        let f : i + 1 ≡ suc i = omega arith in
        (λ k. declared m i (declaration_of decl) ++ rest (f k) (f k))
        ∙ sym (ap (λ l. declared_from m i (map declaration_of l))
        (drop-cons decls i decl within ∙ ap (λ v. v ∷ drop (suc i) decls) (sym is)))
