-- What the machine of modules reads opens, and what opens the machine of modules reads.
use Rattle.std.proofs.Common.{◌≡◌, ◌∙◌, sym, ap, subst, ℕ, ◌+◌, ◌≤◌, Bool, true, false}
use Rattle.std.proofs.Common.{List, ◌++◌, length, arith}
use Rattle.std.proofs.lemmas.Bool.{false≢true}
use Rattle.mdl_lexer.specs.declared.token.Kind.{Kind}
use Rattle.mdl_lexer.specs.declared.token.Token.{Token}
use Rattle.mdl_syntax.specs.Modules.{ModuleTree}
use Rattle.mdl_syntax.specs.WrittenModules.{write_module}
use Rattle.mdl_syntax.specs.PlacedModules.{placed_module}
use Rattle.mdl_syntax.specs.LevelledModules.{IsModule}
use Rattle.mdl_syntax.specs.AcceptedModules.{module_height, is_version, IsPlain, IsAccepted}
use Rattle.expression_grammar.specs.Languages.{OpensIn}
use Rattle.module_grammar.specs.ModuleFaults.{WritesModule, WritesAccepted, ModuleOpens}
use Rattle.module_grammar.specs.ModuleReadings.{IsModuleTree}
use Rattle.expression_grammar.specs.Readings.{kinds}
use Rattle.module_grammar.specs.inside.ModuleStates.{State, mdl_wanted}
use Rattle.module_grammar.specs.inside.ModuleMachine.{ModuleRun, module_read}
use Rattle.module_grammar.specs.inside.ModuleLeads.{ModuleLeads, ModuleEnds}
use Rattle.expression_grammar.proofs.KindLaws.{kinds_append}
use Rattle.expression_grammar.proofs.PlaceLaws.{kinds_some, some_tokens}
use Rattle.expression_grammar.proofs.LanguageLaws.{Grows}
use Rattle.module_grammar.proofs.ModuleFitsLaws.{module_ends_fits}
use Rattle.module_grammar.proofs.ModuleReadingLaws.{module_written_reads}
use Rattle.module_grammar.proofs.ModuleReachedLaws.{module_leads_viable}
use Rattle.module_grammar.proofs.ModuleLeadsLaws.{module_leads_on, module_leads_split}
use Rattle.module_grammar.proofs.ModuleOutcomeLaws.{module_run_reads}
use Rattle.module_grammar.proofs.ModuleSoundStep.{module_run_sound}

pub modules_grow : Grows WritesModule
modules_grow words less more within whole = record {
  tree = whole.tree;
  is = whole.is;
  low = omega (arith, within, whole.low);
  writes = whole.writes;
}

-- the module that is read is written by its tokens
pub module_ends_sound : (strict : Bool) (limit : ℕ) (tokens : List Token) (tree : ModuleTree) →
    ModuleEnds strict limit 0 mdl_wanted tokens tree →
    (write_module tree ≡ kinds tokens) × (placed_module tree tokens ≡ tree)
module_ends_sound strict limit tokens tree led =
    let part = module_run_sound strict limit tokens tree
    (module_run_reads strict limit tokens tree led) in
    (part.writes, part.places)

pub module_ends_write : (strict : Bool) (limit : ℕ) → 1 ≤ limit → (tokens : List Token)
    (tree : ModuleTree) → ModuleEnds strict limit 0 mdl_wanted tokens tree →
    WritesModule (kinds tokens) limit
module_ends_write strict limit some tokens tree led =
    let sound = module_ends_sound strict limit tokens tree led in
    let fit = module_ends_fits strict limit 0 tokens tree some led in
    record { tree = tree; is = fit.0; low = fit.1; writes = sound.0 }

-- what the machine takes is led on to the end of a module
pub module_led_on : (strict : Bool) (limit : ℕ) → 1 ≤ limit → (tokens : List Token)
    (state : State) → ModuleLeads strict limit 0 mdl_wanted tokens state →
    (rest : List Token) × (tree : ModuleTree)
    × ModuleEnds strict limit 0 mdl_wanted (tokens ++ rest) tree
module_led_on strict limit some tokens state leads =
    let (rest, tree, led) = module_leads_viable strict limit 0 tokens state (0 + length tokens) some
    leads in (
      rest,
      tree,
      record {
        last = led.last;
        leads = module_leads_on strict limit 0 mdl_wanted state led.last tokens rest leads
            led.leads;
        ends = led.ends;
      },
    )

-- .. and so opens a module
pub module_leads_open : (strict : Bool) (limit : ℕ) → 1 ≤ limit → (tokens : List Token)
    (state : State) → ModuleLeads strict limit 0 mdl_wanted tokens state →
    ModuleOpens (kinds tokens) limit
module_leads_open strict limit some tokens state leads =
    let (rest, tree, led) = module_led_on strict limit some tokens state leads in
    record {
      rest = kinds rest;
      whole = subst (λ (w : List Kind). WritesModule w limit) (kinds_append tokens rest)
          (module_ends_write strict limit some (tokens ++ rest) tree led);
    }

-- tokens that open a module the machine takes

pub module_writes_end : (most : ℕ) (tokens : List Token) → WritesModule (kinds tokens) most →
    (tree : ModuleTree) × ModuleEnds false most 0 mdl_wanted tokens tree
module_writes_end most tokens whole = (
  placed_module whole.tree tokens,
  module_written_reads false most whole.tree tokens whole.is
      (λ is. absurd (false≢true is)) (λ is. absurd (false≢true is)) whole.low whole.writes,
)

-- some tokens of the words that go on
with_rest : (tokens : List Token) (rest : List Kind) →
    kinds tokens ++ rest ≡ kinds (tokens ++ some_tokens rest)
with_rest tokens rest =
    sym (kinds_append tokens (some_tokens rest) ∙ ap (λ l. kinds tokens ++ l) (kinds_some rest))

pub module_opens_lead : (most : ℕ) (tokens : List Token) → ModuleOpens (kinds tokens) most →
    (state : State) × ModuleLeads false most 0 mdl_wanted tokens state
module_opens_lead most tokens opens =
    let (tree, led) = module_writes_end most (tokens ++ some_tokens opens.rest)
    (subst (λ (w : List Kind). WritesModule w most) (with_rest tokens opens.rest) opens.whole) in
    let (state, first, second) = module_leads_split false most 0 mdl_wanted led.last tokens
    (some_tokens opens.rest) led.leads in
    (state, first)

-- Modules that are accepted.

-- what is read strictly is of a version that is read, and sizes are deferred in it where they may
abbrev pub PlainLaw : Type 0
PlainLaw =
    (limit : ℕ) (tokens : List Token) (tree : ModuleTree) →
    ModuleEnds true limit 0 mdl_wanted tokens tree →
    (is_version tree.version.text tree.version.double ≡ true) × IsPlain tree

pub accepted_ends : PlainLaw → (limit : ℕ) → 1 ≤ limit → (tokens : List Token)
    (tree : ModuleTree) → ModuleEnds true limit 0 mdl_wanted tokens tree →
    IsModuleTree limit tokens tree
accepted_ends law limit some tokens tree led =
    let sound = module_ends_sound true limit tokens tree led in
    let fit = module_ends_fits true limit 0 tokens tree some led in
    let plain = law limit tokens tree led in
    record {
      writes = sound.0;
      places = sound.1;
      accepted = record { is = fit.0; version = plain.0; plain = plain.1; low = fit.1 };
    }

pub accepted_leads_open : PlainLaw → (limit : ℕ) → 1 ≤ limit → (tokens : List Token)
    (state : State) → ModuleLeads true limit 0 mdl_wanted tokens state →
    OpensIn WritesAccepted (kinds tokens) limit
accepted_leads_open law limit some tokens state leads =
    let (rest, tree, led) = module_led_on true limit some tokens state leads in
    let read = accepted_ends law limit some (tokens ++ rest) tree led in
    record {
      rest = kinds rest;
      whole = record {
        tree = tree;
        accepted = read.accepted;
        writes = read.writes ∙ kinds_append tokens rest;
      };
    }

pub accepted_reads : (most : ℕ) (tree : ModuleTree) (tokens : List Token) →
    IsAccepted most tree → write_module tree ≡ kinds tokens →
    ModuleEnds true most 0 mdl_wanted tokens (placed_module tree tokens)
accepted_reads most tree tokens accepted writes =
    module_written_reads true most tree tokens accepted.is (λ is. accepted.plain)
    (λ is. accepted.version) accepted.low writes

pub accepted_opens_lead : (most : ℕ) (tokens : List Token) →
    OpensIn WritesAccepted (kinds tokens) most →
    (state : State) × ModuleLeads true most 0 mdl_wanted tokens state
accepted_opens_lead most tokens opens =
    let led = accepted_reads most opens.whole.tree (tokens ++ some_tokens opens.rest)
    opens.whole.accepted (opens.whole.writes ∙ with_rest tokens opens.rest) in
    let (state, first, second) = module_leads_split true most 0 mdl_wanted led.last tokens
    (some_tokens opens.rest) led.leads in
    (state, first)

-- Tokens are one module.

abbrev read_in : ModuleTree → ModuleRun → ModuleTree
read_in tree (module_read own) = own
read_in tree _ = tree

-- one run reads one module
pub one_end : (strict : Bool) (limit : ℕ) (tokens : List Token) (one other : ModuleTree) →
    ModuleEnds strict limit 0 mdl_wanted tokens one →
    ModuleEnds strict limit 0 mdl_wanted tokens other → one ≡ other
one_end strict limit tokens one other first second =
    ap (read_in one) (sym (module_run_reads strict limit tokens one first)
    ∙ module_run_reads strict limit tokens other second)

-- words are written by one module, places aside
pub one_module : (one other : ModuleTree) (tokens : List Token) → IsModule one → IsModule other →
    write_module one ≡ kinds tokens → write_module other ≡ kinds tokens →
    placed_module one tokens ≡ placed_module other tokens
one_module one other tokens is also writes same =
    one_end false limit tokens (placed_module one tokens) (placed_module other tokens)
    (module_written_reads false limit one tokens is (λ no. absurd (false≢true no))
    (λ no. absurd (false≢true no)) (omega (arith)) writes)
    (module_written_reads false limit other tokens also (λ no. absurd (false≢true no))
    (λ no. absurd (false≢true no)) (omega (arith)) same)
  where
    limit : ℕ
    limit = module_height one + module_height other
