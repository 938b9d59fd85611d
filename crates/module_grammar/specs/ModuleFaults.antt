-- The faults of words that are to be a module, each at its place.
use Rattle.std.specs.Prelude.{◌≡◌, ◌⊎◌, ℕ, suc, ◌<◌, ◌≤◌, Bool, false, List, [], ◌∷◌, ◌++◌, Some, None}
use Rattle.std.specs.Prelude.{codes, length, take, slice_get}
use Rattle.mdl_lexer.specs.declared.token.Kind.{Kind}
use Rattle.mdl_lexer.specs.declared.token.Kind.TheVariants as kind
use Rattle.mdl_lexer.specs.Kinds.{mark_word, name_word}
use Rattle.mdl_syntax.specs.Modules.{Declaration, ModuleTree, function}
use Rattle.mdl_syntax.specs.WrittenModules.{write_module}
use Rattle.mdl_syntax.specs.LevelledModules.{IsModule}
use Rattle.mdl_syntax.specs.AcceptedModules.{module_height, IsAccepted, is_version}
use Rattle.expression_grammar.specs.Languages.{OpensIn, OpensToIn, IsDeepIn, IsLeftOutWordIn, IsDeferredSizeIn, IsBadIn}

-- a module writes the words. It is of any version, its expressions are of at most this height, and sizes may be
-- deferred in it
pub record WritesModule (words : List Kind) (most : ℕ) : Type 0 where
  pub tree : ModuleTree
  pub is : IsModule tree
  pub low : module_height tree ≤ most
  pub writes : write_module tree ≡ words

-- one that is accepted does
pub record WritesAccepted (words : List Kind) (most : ℕ) : Type 0 where
  pub tree : ModuleTree
  pub accepted : IsAccepted most tree
  pub writes : write_module tree ≡ words

abbrev pub ModuleOpens : List Kind → ℕ → Type 0
ModuleOpens words most = OpensIn WritesModule words most

abbrev pub ModuleOpensTo : List Kind → ℕ → ℕ → Type 0
ModuleOpensTo words at most = OpensToIn WritesModule words at most

-- so many words are a module
abbrev pub IsWhole : List Kind → ℕ → Type 0
IsWhole words whole = (whole ≤ length words) × ((most : ℕ) × WritesModule (take whole words) most)

-- the most that are one, or none
abbrev pub IsMost : List Kind → ℕ → Type 0
IsMost words whole =
    ((whole ≡ 0) ⊎ IsWhole words whole) × ((other : ℕ) → IsWhole words other → other ≤ whole)

abbrev pub IsPrototype : Declaration → Type 0
IsPrototype (function exported ty name parameters frequency annotations None span) = Unit {0}
IsPrototype _ = ⊥

-- the words end with the head of a function: with `;` they are a module whose last declaration is a prototype
pub record EndsHead (words : List Kind) : Type 0 where
  pub tree : ModuleTree
  pub is : IsModule tree
  pub before : List Declaration
  pub last : Declaration
  pub are : tree.declarations ≡ before ++ last ∷ []
  pub prototype : IsPrototype last
  pub writes : write_module tree ≡ words ++ mark_word (codes ";") ∷ []

abbrev pub IsTooDeep : ℕ → List Kind → ℕ → Type 0
IsTooDeep most words at = IsDeepIn WritesModule most words at

-- behind a function's head, the `{` of a body of statements
pub record IsStatementBody (words : List Kind) (at : ℕ) : Type 0 where
  pub there : slice_get words at ≡ Some (mark_word (codes "{"))
  pub head : EndsHead (take at words)

-- a version that isn't read
pub record IsOtherVersion (words : List Kind) (at : ℕ) : Type 0 where
  pub text : List ℕ
  pub double : Bool
  pub behind : at ≡ 1
  pub word : slice_get words 0 ≡ Some (name_word (codes "mdl"))
  pub there : slice_get words at ≡ Some (kind.Real text double)
  pub other : is_version text double ≡ false

-- these words stand side by side, the second at this place, and the words before it open
pub record ArePair (words : List Kind) (at : ℕ) (one other : Kind) : Type 0 where
  pub before : ℕ
  pub behind : at ≡ suc before
  pub first : slice_get words before ≡ Some one
  pub there : slice_get words at ≡ Some other
  pub opens : (most : ℕ) × ModuleOpens (take at words) most

-- `using`, a name and `=`
pub record IsAlias (words : List Kind) (at : ℕ) : Type 0 where
  pub text : List ℕ
  pub pair : ArePair words at (kind.Word text) (mark_word (codes "="))
  pub start : ℕ
  pub ahead : at ≡ suc (suc start)
  pub front : slice_get words start ≡ Some (name_word (codes "using"))

-- `<` begins the size of a type, and no accepted module begins so, however high
pub record IsStraySize (words : List Kind) (at : ℕ) : Type 0 where
  pub size : IsDeferredSizeIn WritesModule words at
  pub none : (most : ℕ) → OpensIn WritesAccepted (take (suc at) words) most → ⊥

-- `<` begins the size of a type in the head of a function, and the function's body begins behind it, at `=`. Up to
-- there nothing is too deep
pub record IsSizeOfHead (most : ℕ) (words : List Kind) (at : ℕ) : Type 0 where
  pub size : IsDeferredSizeIn WritesModule words at
  pub equals : ℕ
  pub behind : at < equals
  pub there : slice_get words equals ≡ Some (mark_word (codes "="))
  pub head : EndsHead (take equals words)
  pub same_head : (whole : ℕ) → at < whole → whole ≤ equals → IsWhole words whole → ⊥
  pub low : (place : ℕ) → place ≤ equals → IsTooDeep most words place → ⊥

-- a form that is left out begins here, and this is its text
pub data IsLeftOutForm (most : ℕ) (words : List Kind) (at : ℕ) : List ℕ → Type 0 where
  a_word : (text : List ℕ) → IsLeftOutWordIn WritesModule words at text → IsLeftOutForm most words at text
  a_string : (text : List ℕ) → ArePair words at (name_word (codes "import")) (kind.Str text)
      ⊎ ArePair words at (name_word (codes "using")) (kind.Str text) →
      IsLeftOutForm most words at (codes "string-name")
  a_re_export : ArePair words at (name_word (codes "export")) (name_word (codes "using")) →
      IsLeftOutForm most words at (codes "re-export")
  an_alias : IsAlias words at → IsLeftOutForm most words at (codes "alias")
  a_stray_size : IsStraySize words at → IsLeftOutForm most words at (codes "deferred-size")
  a_size_of_head : IsSizeOfHead most words at → IsLeftOutForm most words at (codes "deferred-size")

-- a fault with a name of its own stands here
pub data IsNamedFault (most : ℕ) (words : List Kind) (at : ℕ) : Type 0 where
  too_deep : IsTooDeep most words at → IsNamedFault most words at
  left_out : (text : List ℕ) → IsLeftOutForm most words at text → IsNamedFault most words at
  statement_body : IsStatementBody words at → IsNamedFault most words at
  other_version : IsOtherVersion words at → IsNamedFault most words at

-- the first place up to which the words don't open, where no fault has a name of its own
abbrev pub IsBadModule : ℕ → List Kind → ℕ → Type 0
IsBadModule most words at = IsBadIn WritesModule (IsNamedFault most words) words at
