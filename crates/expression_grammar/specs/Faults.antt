-- The faults of words that are to be an expression, each at its place.
use Rattle.std.specs.Prelude.{◌≡◌, ◌⊎◌, ℕ, List, codes}
use Rattle.mdl_lexer.specs.declared.token.Kind.{Kind}
use Rattle.expression_grammar.specs.Languages.{IsDeepIn, IsLeftOutWordIn, IsDeferredSizeIn, IsBadIn}
use Rattle.expression_grammar.specs.Opens.{Writes}

abbrev pub IsDeep : ℕ → List Kind → ℕ → Type 0
IsDeep most words at = IsDeepIn Writes most words at

abbrev pub IsLeftOutWord : List Kind → ℕ → List ℕ → Type 0
IsLeftOutWord words at text = IsLeftOutWordIn Writes words at text

abbrev pub IsDeferredSize : List Kind → ℕ → Type 0
IsDeferredSize words at = IsDeferredSizeIn Writes words at

-- a form that is left out begins here, and this is its text
abbrev pub IsLeftOut : List Kind → ℕ → List ℕ → Type 0
IsLeftOut words at text =
    IsLeftOutWord words at text ⊎ (IsDeferredSize words at × (text ≡ codes "deferred-size"))

-- a fault with a name of its own stands here
abbrev pub IsNamed : ℕ → List Kind → ℕ → Type 0
IsNamed most words at = IsDeep most words at ⊎ ((text : List ℕ) × IsLeftOut words at text)

-- the first place up to which the words don't open, where no fault has a name of its own
abbrev pub IsBad : ℕ → List Kind → ℕ → Type 0
IsBad most words at = IsBadIn Writes (IsNamed most words) words at
