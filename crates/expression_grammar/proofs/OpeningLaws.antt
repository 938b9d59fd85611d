-- What the machine reads opens, and what opens the machine reads.
use Rattle.std.proofs.Common.{◌≡◌, ◌∙◌, sym, ap, subst, ℕ, ◌≤◌, Bool, true}
use Rattle.std.proofs.Common.{false, List, [], ◌++◌, arith}
use Rattle.std.proofs.lemmas.Bool.{false≢true}
use Rattle.mdl_lexer.specs.declared.token.Kind.{Kind}
use Rattle.mdl_lexer.specs.declared.token.Token.{Token}
use Rattle.mdl_syntax.specs.Trees.{Tree}
use Rattle.mdl_syntax.specs.Written.{write}
use Rattle.mdl_syntax.specs.Placed.{placed}
use Rattle.mdl_syntax.specs.Heights.{height}
use Rattle.mdl_syntax.specs.Levelled.{Levelled, NoneDeferred}
use Rattle.expression_grammar.specs.Opens.{Opens, Writes, OpensTo}
use Rattle.expression_grammar.specs.inside.Machine.{Mode, Frame, wanted}
use Rattle.expression_grammar.specs.inside.Leads.{Leads, Ends}
use Rattle.expression_grammar.specs.Readings.{kinds}
use Rattle.expression_grammar.proofs.LeadsLaws.{leads_on, leads_split, generous}
use Rattle.expression_grammar.proofs.ViableLaws.{viable}
use Rattle.expression_grammar.proofs.PlaceLaws.{kinds_some, some_tokens}
use Rattle.expression_grammar.proofs.LanguageLaws as languages
use Rattle.expression_grammar.proofs.SoundLaws.{ends_sound}
use Rattle.expression_grammar.proofs.FitsLaws.{start_fits, leads_fits, ends_fits}
use Rattle.expression_grammar.proofs.ReadsLaws.{reads_wrote}
use Rattle.expression_grammar.proofs.HeightLaws.{placed_height}
use Rattle.expression_grammar.proofs.WroteLaws.{wrote}
use Rattle.expression_grammar.proofs.KindLaws.{kinds_append}

writes_grow : (words : List Kind) (less more : ℕ) → less ≤ more → Writes words less →
    Writes words more
writes_grow words less more within whole = record {
  tree = whole.tree;
  levelled = whole.levelled;
  low = omega (arith, within, whole.low);
  writes = whole.writes;
}

pub opens_to_higher : (words : List Kind) (at less more : ℕ) → less ≤ more → OpensTo words at less →
    OpensTo words at more
opens_to_higher = languages.opens_to_higher Writes writes_grow

-- Tokens.

-- what the machine takes opens an expression
pub leads_open : (strict : Bool) (limit : ℕ) → 1 ≤ limit → (tokens : List Token) (mode : Mode)
    (frames : List Frame) → Leads strict limit wanted [] tokens mode frames →
    Opens (kinds tokens) limit
leads_open strict limit some tokens mode frames leads =
    let fits = leads_fits strict limit wanted [] tokens mode frames
    (start_fits limit some) leads in
    let (rest, tree, led) = viable limit mode frames fits in
    let whole : Ends false limit wanted [] (tokens ++ rest) tree = record {
      last = led.last;
      last_frames = led.last_frames;
      leads = leads_on {last = led.last} {last_frames = led.last_frames}
          (generous leads) led.leads;
      ends = led.ends;
    } in
    let sound = ends_sound false limit (tokens ++ rest) tree whole in
    let fit = ends_fits false limit some (tokens ++ rest) tree whole in
    record {
      rest = kinds rest;
      whole = record {
        tree = tree;
        levelled = fit.0;
        low = fit.1;
        writes = sound.writes ∙ kinds_append tokens rest;
      };
    }

pub ends_write : (strict : Bool) (limit : ℕ) → 1 ≤ limit → (tokens : List Token) (tree : Tree) →
    Ends strict limit wanted [] tokens tree → Writes (kinds tokens) limit
ends_write strict limit some tokens tree led =
    let sound = ends_sound strict limit tokens tree led in
    let fit = ends_fits strict limit some tokens tree led in
    record { tree = tree; levelled = fit.0; low = fit.1; writes = sound.writes }

pub written_reads : (strict : Bool) (limit : ℕ) (tree : Tree) (tokens : List Token) →
    Levelled tree → (strict ≡ true → NoneDeferred tree) → height tree ≤ limit →
    write tree ≡ kinds tokens → Ends strict limit wanted [] tokens (placed tree tokens)
written_reads strict limit tree tokens levelled none low writes =
    reads_wrote strict limit (placed tree tokens) tokens (wrote strict tree tokens levelled none
    writes) (subst (λ n. n ≤ limit) (sym (placed_height tree tokens)) low)

-- tokens that open an expression the machine takes
pub opens_lead : (most : ℕ) (tokens : List Token) → Opens (kinds tokens) most →
    (mode : Mode) × (frames : List Frame) × Leads false most wanted [] tokens mode frames
opens_lead most tokens opens =
    let others = some_tokens opens.rest in
    let same : write opens.whole.tree ≡ kinds (tokens ++ others) =
    opens.whole.writes ∙ sym (kinds_append tokens others
    ∙ ap (λ l. kinds tokens ++ l) (kinds_some opens.rest)) in
    let led = written_reads false most opens.whole.tree (tokens ++ others)
    opens.whole.levelled (λ is. absurd (false≢true is)) opens.whole.low same in
    let (mode, frames, first, second) =
    leads_split false most wanted led.last [] led.last_frames tokens others led.leads in
    (mode, frames, first)

pub writes_end : (most : ℕ) (tokens : List Token) → Writes (kinds tokens) most →
    (tree : Tree) × Ends false most wanted [] tokens tree
writes_end most tokens whole = (
  placed whole.tree tokens,
  written_reads false most whole.tree tokens whole.levelled
      (λ is. absurd (false≢true is)) whole.low whole.writes,
)
