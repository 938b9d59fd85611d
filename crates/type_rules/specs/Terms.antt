-- Terms: a symbol with a list of terms, its kids.
use Rattle.std.specs.Prelude.{◌≡◌, List, [], ◌∷◌, map}
use Rattle.type_rules.specs.declared.ty.Ty.{Ty}
use Rattle.type_rules.specs.declared.ty.Arg.{Arg}
use Rattle.type_rules.specs.declared.symbol.Symbol.{Symbol}
use Rattle.type_rules.specs.Types.{type_of, arguments_of}

mutual
  pub data Term : Type 0 where
    apply : (symbol : Symbol) → (kids : Terms) → Term

  pub data Terms : Type 0 where
    nil : Terms
    cons : (first : Term) → (others : Terms) → Terms

abbrev pub list_of : Terms → List Term
list_of nil = []
list_of (cons t ts) = t ∷ list_of ts

abbrev pub terms_from : List Term → Terms
terms_from [] = nil
terms_from (t ∷ ts) = cons t (terms_from ts)

abbrev pub symbol_of : Term → Symbol
symbol_of (apply s ts) = s

abbrev pub kids_of : Term → List Term
kids_of (apply s ts) = list_of ts

-- the type of a term is that of its symbol
abbrev pub term_type : Term → Ty
term_type t = type_of (symbol_of t)

abbrev pub kid_types : Terms → List Ty
kid_types ts = map term_type (list_of ts)

-- the kids have the types that the symbol takes
abbrev pub Takes : Symbol → List Ty → Type 0
Takes s types = types ≡ map (λ (arg : Arg). arg.ty) (arguments_of s)

-- each symbol of the term takes the types of its kids
abbrev mutual
  pub IsTyped : Term → Type 0
  IsTyped (apply s ts) = Takes s (kid_types ts) × AreTyped ts

  pub AreTyped : Terms → Type 0
  AreTyped nil = Unit {0}
  AreTyped (cons t ts) = IsTyped t × AreTyped ts
