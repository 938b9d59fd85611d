-- The machine of modules reads names of modules.
use Rattle.std.proofs.Common.{◌≡◌, ap, ℕ, suc, Bool, List, [], ◌∷◌, ◌++◌}
use Rattle.mdl_lexer.specs.declared.token.Token.{Token}
use Rattle.mdl_syntax.specs.declared.names.Span.{Span}
use Rattle.mdl_syntax.specs.declared.names.Ident.{Ident}
use Rattle.mdl_syntax.specs.declared.imports.Lead.{Lead}
use Rattle.mdl_syntax.specs.declared.imports.Lead.TheVariants as lead
use Rattle.expression_grammar.specs.inside.Machine.{Sort, sort_of, identifier, double_colon, dot, ident_at}
use Rattle.module_grammar.specs.inside.ModuleStates.{Naming, unnamed, one_dot, two_dots, up_steps}
use Rattle.module_grammar.specs.inside.ModuleStates.{one_dot_behind, led, parted, open_ended}
use Rattle.module_grammar.specs.inside.ModuleMachine.{state_step, permitted_state}
use Rattle.module_grammar.specs.inside.ModuleStates.{State, on}
use Rattle.expression_grammar.specs.inside.Sound.{place}
use Rattle.module_grammar.specs.inside.WroteModules.{UpWrote, one_up, more_up, LeadWrote, bare_lead}
use Rattle.module_grammar.specs.inside.WroteModules.{absolute_lead, here_lead, up_lead, NamingWrote}
use Rattle.module_grammar.specs.inside.WroteModules.{first_named, longer_name}
use Rattle.module_grammar.proofs.ModuleReadsParts.{Way, way_on, stay, by_sort, IsKept}

-- how a name goes on
pub data Goes : Naming → Sort → Span → Naming → Type 0 where
  dot_first : (at : Span) → Goes unnamed dot at (one_dot at.at)
  colons_first : (at : Span) → Goes unnamed double_colon at (led lead.Absolute at.at)
  word_first : (text : List ℕ) (at : Span) → Goes unnamed (identifier text) at
      (parted lead.Bare at.at (ident_at text at ∷ []) at.end)
  dot_again : (from : ℕ) (at : Span) → Goes (one_dot from) dot at (two_dots 0 from)
  here_colons : (from : ℕ) (at : Span) → Goes (one_dot from) double_colon at (led lead.Here from)
  up_colons : (steps from : ℕ) (at : Span) → Goes (two_dots steps from) double_colon at
      (up_steps (suc steps) from)
  up_dot : (steps from : ℕ) (at : Span) → Goes (up_steps steps from) dot at
      (one_dot_behind steps from)
  up_word : (steps from : ℕ) (text : List ℕ) (at : Span) →
      Goes (up_steps steps from) (identifier text) at
      (parted (lead.Up steps) from (ident_at text at ∷ []) at.end)
  behind_dot : (steps from : ℕ) (at : Span) → Goes (one_dot_behind steps from) dot at
      (two_dots steps from)
  led_word : (own : Lead) (from : ℕ) (text : List ℕ) (at : Span) →
      Goes (led own from) (identifier text) at (parted own from (ident_at text at ∷ []) at.end)
  parted_colons : (own : Lead) (from : ℕ) (parts : List Ident) (end : ℕ) (at : Span) →
      Goes (parted own from parts end) double_colon at (open_ended own from parts end)
  open_word : (own : Lead) (from : ℕ) (parts : List Ident) (end : ℕ) (text : List ℕ) (at : Span) →
      Goes (open_ended own from parts end) (identifier text) at
      (parted own from (parts ++ ident_at text at ∷ []) at.end)

-- a state with a name goes on as the name does
pub record Namer (limit : ℕ) (state : Naming → State) : Type 0 where
  pub goes : (number : ℕ) (naming next : Naming) (sort : Sort) (at : Span) →
      Goes naming sort at next → state_step limit number (state naming) sort at ≡ on (state next)
  pub kept : (naming : Naming) → permitted_state (state naming) ≡ on (state naming)

name_step : {strict : Bool} {limit : ℕ} {last : State} {token : Token} {tokens : List Token}
    (state : Naming → State) → Namer limit state → (naming next : Naming) (sort : Sort) →
    sort_of token.kind ≡ sort → Goes naming sort (place token) next → IsKept sort →
    Way strict limit (state next) tokens last → Way strict limit (state naming) (token ∷ tokens) last
name_step {strict} {limit} {last} {token} {tokens} state namer naming next sort is goes kept rest =
    by_sort (state next) sort is kept
    (λ number. namer.goes number naming next sort (place token) goes) (namer.kept next) rest

up_reads : (strict : Bool) (limit : ℕ) (state : Naming → State) → Namer limit state →
    (steps at : ℕ) (tokens : List Token) → UpWrote steps at tokens →
    Way strict limit (state unnamed) tokens (state (up_steps steps at))
up_reads strict limit state namer steps at tokens (one_up first other colon f o c) =
    name_step state namer unnamed (one_dot first.at) dot (ap sort_of f.is) (dot_first (place first))
    tt
    (name_step state namer (one_dot first.at) (two_dots 0 first.at) dot (ap sort_of o.is)
    (dot_again first.at (place other)) tt
    (name_step state namer (two_dots 0 first.at) (up_steps 1 first.at) double_colon (ap sort_of c.is)
    (up_colons 0 first.at (place colon)) tt stay))
up_reads strict limit state namer steps at tokens
    (more_up before _ others first other colon wrote f o c) =
    way_on (state (up_steps before at)) (up_reads strict limit state namer before at others wrote)
    (name_step state namer (up_steps before at) (one_dot_behind before at) dot (ap sort_of f.is)
    (up_dot before at (place first)) tt
    (name_step state namer (one_dot_behind before at) (two_dots before at) dot (ap sort_of o.is)
    (behind_dot before at (place other)) tt
    (name_step state namer (two_dots before at) (up_steps (suc before) at) double_colon
    (ap sort_of c.is) (up_colons before at (place colon)) tt stay)))

pub naming_reads : (strict : Bool) (limit : ℕ) (state : Naming → State) → Namer limit state →
    (own : Lead) (at : ℕ) (parts : List Ident) (end : ℕ) (tokens : List Token) →
    NamingWrote own at parts end tokens →
    Way strict limit (state unnamed) tokens (state (parted own at parts end))
naming_reads strict limit state namer own at parts end tokens
    (first_named _ _ leads word text wrote is) = by own at leads wrote
  where
    by : (own : Lead) (at : ℕ) (leads : List Token) → LeadWrote word.at own at leads →
        Way strict limit (state unnamed) (leads ++ word ∷ [])
        (state (parted own at (ident_at text (place word) ∷ []) word.end))
    by own at leads bare_lead =
        name_step state namer unnamed
        (parted lead.Bare word.at (ident_at text (place word) ∷ []) word.end) (identifier text)
        (ap sort_of is) (word_first text (place word)) tt stay
    by own at leads (absolute_lead colon c) =
        name_step state namer unnamed (led lead.Absolute colon.at) double_colon (ap sort_of c.is)
        (colons_first (place colon)) tt
        (name_step state namer (led lead.Absolute colon.at)
        (parted lead.Absolute colon.at (ident_at text (place word) ∷ []) word.end)
        (identifier text) (ap sort_of is) (led_word lead.Absolute colon.at text (place word)) tt
        stay)
    by own at leads (here_lead first colon f c) =
        name_step state namer unnamed (one_dot first.at) dot (ap sort_of f.is)
        (dot_first (place first)) tt
        (name_step state namer (one_dot first.at) (led lead.Here first.at) double_colon
        (ap sort_of c.is) (here_colons first.at (place colon)) tt
        (name_step state namer (led lead.Here first.at)
        (parted lead.Here first.at (ident_at text (place word) ∷ []) word.end)
        (identifier text) (ap sort_of is) (led_word lead.Here first.at text (place word)) tt stay))
    by own at leads (up_lead steps _ _ ups) =
        way_on (state (up_steps steps at)) (up_reads strict limit state namer steps at leads ups)
        (name_step state namer (up_steps steps at)
        (parted (lead.Up steps) at (ident_at text (place word) ∷ []) word.end)
        (identifier text) (ap sort_of is) (up_word steps at text (place word)) tt stay)
naming_reads strict limit state namer own at parts end tokens
    (longer_name _ _ others close front colon word text wrote c is) =
    way_on (state (parted own at others close))
    (naming_reads strict limit state namer own at others close front wrote)
    (name_step state namer (parted own at others close) (open_ended own at others close)
    double_colon (ap sort_of c.is) (parted_colons own at others close (place colon)) tt
    (name_step state namer (open_ended own at others close)
    (parted own at (others ++ ident_at text (place word) ∷ []) word.end) (identifier text)
    (ap sort_of is) (open_word own at others close text (place word)) tt stay))
