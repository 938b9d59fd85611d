-- How the machine of modules goes on where it keeps the place of the first size that is deferred.
use Rattle.std.proofs.Common.{◌≡◌, ◌∙◌, ℕ, suc, Bool, true, List, ◌++◌, Option}
use Rattle.mdl_lexer.specs.declared.token.Token.{Token}
use Rattle.module_grammar.specs.inside.ModuleStates.{State, Fronted, Owner, of_function}
use Rattle.module_grammar.specs.inside.ModuleStates.{of_annotation, Named}
use Rattle.mdl_syntax.specs.declared.types.TypeTree.{TypeTree}
use Rattle.module_grammar.specs.inside.ModuleLeads.{ModuleLeads, here, next}
use Rattle.module_grammar.proofs.ModuleReadsParts.{Way}

abbrev pub fronted_of : Named → TypeTree → Option ℕ → Fronted
fronted_of named ty deferred = record { named = named; ty = ty; deferred = deferred }

-- the owner with this place of the first size that is deferred
abbrev pub with_deferred : Owner → Option ℕ → Owner
with_deferred (of_function fronted) deferred =
    of_function (fronted_of fronted.named fronted.ty deferred)
with_deferred (of_annotation named) deferred = of_annotation named

-- from this number of a token, the tokens lead on, and leave a place of the first size that is
-- deferred. Where none is, it is the one before
pub record Reads (sized strict : Bool) (limit number : ℕ) (state : State) (from : Option ℕ)
    (tokens : List Token) (Edge : Option ℕ → State → Type 0) : Type 0 where
  pub deferred : Option ℕ
  pub last : State
  pub leads : ModuleLeads strict limit number state tokens last
  pub edge : Edge deferred last
  pub kept : sized ≡ true → deferred ≡ from

-- the state for the place
pub data At (then : Option ℕ → State) : Option ℕ → State → Type 0 where
  reached : (deferred : Option ℕ) → At then deferred (then deferred)

-- behind tokens that defer nothing
pub reads_behind : (sized strict : Bool) (limit number : ℕ) (state mid : State) (from : Option ℕ)
    (one other : List Token) (Edge : Option ℕ → State → Type 0) →
    ModuleLeads strict limit number state one mid →
    ((n : ℕ) → Reads sized strict limit n mid from other Edge) →
    Reads sized strict limit number state from (one ++ other) Edge
reads_behind sized strict limit number state mid from one other Edge (here _ _) second =
    second number
reads_behind sized strict limit number state mid from one other Edge
    (next _ _ after _ token tokens is rest) second =
    let read = reads_behind sized strict limit (suc number) after mid from tokens other Edge rest
    second in record {
      deferred = read.deferred;
      last = read.last;
      leads = next number state after read.last token (tokens ++ other) is read.leads;
      edge = read.edge;
      kept = read.kept;
    }

-- behind tokens that may
pub reads_on : (sized strict : Bool) (limit number : ℕ) (state : State) (from : Option ℕ)
    (one other : List Token) (First Edge : Option ℕ → State → Type 0) →
    Reads sized strict limit number state from one First →
    ((d : Option ℕ) (mid : State) → First d mid →
    (n : ℕ) → Reads sized strict limit n mid d other Edge) →
    Reads sized strict limit number state from (one ++ other) Edge
reads_on sized strict limit number state from one other First Edge first second =
    let read = reads_behind sized strict limit number state first.last first.deferred one other Edge
    first.leads (second first.deferred first.last first.edge) in record {
      deferred = read.deferred;
      last = read.last;
      leads = read.leads;
      edge = read.edge;
      kept = λ is. read.kept is ∙ first.kept is;
    }

leads_behind : (strict : Bool) (limit number : ℕ) (state mid last : State)
    (one other : List Token) → ModuleLeads strict limit number state one mid → Way strict limit mid
    other last → ModuleLeads strict limit number state (one ++ other) last
leads_behind strict limit number state mid last one other (here _ _) second = second number
leads_behind strict limit number state mid last one other (next _ _ after _ token tokens is rest)
    second =
    next number state after last token (tokens ++ other) is
    (leads_behind strict limit (suc number) after mid last tokens other rest second)

-- what follows leads to one state, whatever was deferred
pub reads_to : (sized strict : Bool) (limit : ℕ) (state last : State) (from : Option ℕ)
    (one other : List Token) (Edge : Option ℕ → State → Type 0) →
    ((n : ℕ) → Reads sized strict limit n state from one Edge) →
    ((d : Option ℕ) (mid : State) → Edge d mid → (sized ≡ true → d ≡ from) →
    Way strict limit mid other last) → Way strict limit state (one ++ other) last
reads_to sized strict limit state last from one other Edge first second number =
    let read = first number in
    leads_behind strict limit number state read.last last one other read.leads
    (second read.deferred read.last read.edge read.kept)

-- where nothing is deferred
pub reads_plain : (sized strict : Bool) (limit number : ℕ) (state last : State) (from : Option ℕ)
    (tokens : List Token) (Edge : Option ℕ → State → Type 0) →
    Way strict limit state tokens last → Edge from last →
    Reads sized strict limit number state from tokens Edge
reads_plain sized strict limit number state last from tokens Edge way edge = record {
  deferred = from;
  last = last;
  leads = way number;
  edge = edge;
  kept = λ is. λ i. from;
}
