-- With a form that is left out no module begins.
use Rattle.std.proofs.Common.{◌≡◌, ◌∙◌, sym, ap, subst, ℕ, List, ◌∷◌, ◌++◌, false}
use Rattle.std.proofs.lemmas.Bool.{false≢true}
use Rattle.mdl_lexer.specs.declared.token.Token.{Token}
use Rattle.mdl_syntax.specs.WrittenModules.{write_module}
use Rattle.expression_grammar.specs.Languages.{OpensIn}
use Rattle.module_grammar.specs.ModuleFaults.{WritesModule}
use Rattle.expression_grammar.specs.Readings.{kinds}
use Rattle.module_grammar.specs.inside.ModuleStates.{State, mdl_wanted}
use Rattle.module_grammar.specs.inside.ModuleLeads.{ModuleLeads}
use Rattle.module_grammar.specs.inside.ModuleForms.{LeftOutBy}
use Rattle.expression_grammar.proofs.KindLaws.{kinds_append}
use Rattle.expression_grammar.proofs.PlaceLaws.{some_tokens, kinds_some}
use Rattle.module_grammar.proofs.ModuleReadingLaws.{module_written_reads}
use Rattle.module_grammar.proofs.ModuleLastWords.{IsOn, taken_on, leads_head, leads_split}
use Rattle.module_grammar.proofs.ModuleLeftOutLaws.{left_out_leaves}

-- tokens that open a module the machine takes
pub module_opens_lead : (most : ℕ) (tokens : List Token) →
    OpensIn WritesModule (kinds tokens) most →
    (state : State) × ModuleLeads false most 0 mdl_wanted tokens state
module_opens_lead most tokens opens =
    let others = some_tokens opens.rest in
    let same : write_module opens.whole.tree ≡ kinds (tokens ++ others) =
    opens.whole.writes ∙ sym (kinds_append tokens others
    ∙ ap (λ l. kinds tokens ++ l) (kinds_some opens.rest)) in
    let ends = module_written_reads false most opens.whole.tree (tokens ++ others) opens.whole.is
    (λ is. absurd (false≢true is)) (λ is. absurd (false≢true is)) opens.whole.low same in
    let (mid, at, one, other) = leads_split false most 0 mdl_wanted ends.last tokens others
    ends.leads in
    (mid, one)

-- a token that is left out opens no module
pub left_out_never : (most : ℕ) (before rest : List Token) (token : Token) (text : List ℕ) →
    LeftOutBy before token text →
    OpensIn WritesModule (kinds (before ++ token ∷ rest)) most → ⊥
left_out_never most before rest token text form opens =
    let (last, leads) = module_opens_lead most (before ++ token ∷ rest) opens in
    let (mid, at, one, other) = leads_split false most 0 mdl_wanted last before (token ∷ rest)
    leads in
    let (after, is, behind) = leads_head false most at mid last token rest other in
    subst IsOn (sym (taken_on false most at mid token after is)
    ∙ left_out_leaves false most most at before token mid text one form) tt
