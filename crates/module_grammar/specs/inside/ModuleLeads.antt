-- How tokens lead the machine of modules from one state to another. The first token has this number.
use Rattle.std.specs.Prelude.{◌≡◌, ◌⊎◌, ℕ, suc, ◌≤◌, Bool, true, false, List, [], ◌∷◌, ◌++◌, Some, None}
use Rattle.std.specs.Prelude.{length, take}
use Rattle.mdl_lexer.specs.declared.token.Token.{Token}
use Rattle.mdl_syntax.specs.Modules.{ModuleTree}
use Rattle.expression_grammar.specs.inside.Machine.{is_deferred}
use Rattle.module_grammar.specs.inside.ModuleStates.{State, Begun, on, waits, wrong, too_deep, leaves_out}
use Rattle.module_grammar.specs.inside.ModuleStates.{statement_body, other_version, mdl_wanted, within, item_wanted}
use Rattle.module_grammar.specs.inside.ModuleStates.{expression, in_function_body, fronting, of_parameter}
use Rattle.module_grammar.specs.inside.ModuleMachine.{module_taken}
use Rattle.module_grammar.specs.inside.ModuleMachine.{module_end, ModuleRun, module_read, module_bad, module_deep}
use Rattle.module_grammar.specs.inside.ModuleMachine.{module_left_out, module_statement, module_version, waiting_place}
use Rattle.std.specs.Prelude.{codes}

pub data ModuleLeads (strict : Bool) (limit : ℕ) : ℕ → State → List Token → State → Type 0 where
  here : (number : ℕ) (state : State) → ModuleLeads strict limit number state [] state
  next : (number : ℕ) (state then last : State) (token : Token) (tokens : List Token) →
      module_taken strict limit number state token ≡ on then →
      ModuleLeads strict limit (suc number) then tokens last →
      ModuleLeads strict limit number state (token ∷ tokens) last

-- the tokens end a whole module that is so begun
pub record ModuleEnds (strict : Bool) (limit : ℕ) (number : ℕ) (state : State) (tokens : List Token) (tree : ModuleTree)
    : Type 0 where
  pub last : State
  pub leads : ModuleLeads strict limit number state tokens last
  pub ends : (whole at : ℕ) → module_end whole at last ≡ module_read tree

-- a state that the machine may go on from in this way, to the end of a module
abbrev pub MayGoOn : Bool → State → Type 0
MayGoOn true (within begun (expression (in_function_body fronted parameters frequency annotations) mode frames)) =
    (is_deferred mode ≡ false) × (fronted.deferred ≡ None)
MayGoOn true (within begun (expression site mode frames)) = is_deferred mode ≡ false
MayGoOn true (within begun (fronting (of_parameter owner parameters) mode)) = Unit {0}
MayGoOn true (within begun (fronting of mode)) = is_deferred mode ≡ false
MayGoOn strict state = Unit {0}

-- so many tokens are a whole module
pub record IsWholeAt (strict : Bool) (limit : ℕ) (tokens : List Token) (whole : ℕ) : Type 0 where
  pub within_them : whole ≤ length tokens
  pub begun : Begun
  pub early : Bool
  pub leads : ModuleLeads strict limit 0 mdl_wanted (take whole tokens) (within begun (item_wanted early))

-- the most tokens that are one, or none
pub record IsMostWhole (strict : Bool) (limit : ℕ) (tokens : List Token) (whole : ℕ) : Type 0 where
  pub is : (whole ≡ 0) ⊎ IsWholeAt strict limit tokens whole
  pub most : (other : ℕ) → IsWholeAt strict limit tokens other → other ≤ whole

-- what a run over the tokens comes to, and why
pub data ModuleOutcome (strict : Bool) (limit : ℕ) : List Token → ModuleRun → Type 0 where
  reads : (tokens : List Token) (tree : ModuleTree) → ModuleEnds strict limit 0 mdl_wanted tokens tree →
      ModuleOutcome strict limit tokens (module_read tree)
  is_wrong : (before rest : List Token) (token : Token) (state : State) (whole : ℕ) →
      ModuleLeads strict limit 0 mdl_wanted before state → IsMostWhole strict limit before whole →
      module_taken strict limit (length before) state token ≡ wrong →
      ModuleOutcome strict limit (before ++ token ∷ rest) (module_bad whole (length before))
  is_cut_off : (tokens : List Token) (state : State) (whole : ℕ) →
      ModuleLeads strict limit 0 mdl_wanted tokens state → IsMostWhole strict limit tokens whole →
      module_end whole (length tokens) state ≡ module_bad whole (length tokens) →
      ModuleOutcome strict limit tokens (module_bad whole (length tokens))
  is_too_deep : (before rest : List Token) (token : Token) (state : State) →
      ModuleLeads strict limit 0 mdl_wanted before state →
      module_taken strict limit (length before) state token ≡ too_deep →
      ModuleOutcome strict limit (before ++ token ∷ rest) (module_deep (length before))
  is_left_out : (before rest : List Token) (token : Token) (state : State) (text : List ℕ) →
      ModuleLeads strict limit 0 mdl_wanted before state →
      module_taken strict limit (length before) state token ≡ leaves_out None text →
      ModuleOutcome strict limit (before ++ token ∷ rest) (module_left_out (length before) text)
  was_left_out : (before rest : List Token) (token : Token) (state : State) (earlier : ℕ) (text : List ℕ) →
      ModuleLeads strict limit 0 mdl_wanted before state →
      module_taken strict limit (length before) state token ≡ leaves_out (Some earlier) text →
      ModuleOutcome strict limit (before ++ token ∷ rest) (module_left_out earlier text)
  has_waited : (before rest : List Token) (token : Token) (state then : State) →
      ModuleLeads strict limit 0 mdl_wanted before state →
      module_taken strict limit (length before) state token ≡ waits then →
      ModuleOutcome strict limit (before ++ token ∷ rest)
      (module_left_out (waiting_place limit (length before) (suc (length before)) (on then) rest)
      (codes "deferred-size"))
  has_statements : (before rest : List Token) (token : Token) (state : State) →
      ModuleLeads strict limit 0 mdl_wanted before state →
      module_taken strict limit (length before) state token ≡ statement_body →
      ModuleOutcome strict limit (before ++ token ∷ rest) (module_statement (length before))
  has_other_version : (before rest : List Token) (token : Token) (state : State) →
      ModuleLeads strict limit 0 mdl_wanted before state →
      module_taken strict limit (length before) state token ≡ other_version →
      ModuleOutcome strict limit (before ++ token ∷ rest) (module_version (length before))
