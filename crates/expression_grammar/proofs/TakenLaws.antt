-- What a machine takes, it steps to.
use Rattle.std.proofs.Common.{◌≡◌, ◌∙◌, sym, ap, refl, ℕ, Bool, true, false, List, codes}
use Rattle.std.proofs.Common.{if◌then◌else◌}
use Rattle.std.proofs.lemmas.Bool.{false≢true}
use Rattle.mdl_lexer.specs.declared.token.Token.{Token}
use Rattle.expression_grammar.specs.inside.Machine.{Mode, Frame, Step, step, is_deferred, allowed, taken}
use Rattle.expression_grammar.specs.inside.Machine.{goes}
use Rattle.expression_grammar.specs.inside.Machine.{bad, deep, is_left_out}

-- the token is left out
abbrev pub leaves : Step → Bool
leaves (is_left_out text) = true
leaves _ = false

picked : (deferred strict : Bool) (mode : Mode) (frames : List Frame) (made : Step) →
    leaves made ≡ false →
    (if deferred then (if strict then is_left_out (codes "deferred-size") else goes mode frames)
    else goes mode frames) ≡ made → goes mode frames ≡ made
picked true true mode frames made not_left is = absurd
    (false≢true (sym not_left ∙ sym (ap leaves is)))
picked true false mode frames made not_left is = is
picked false strict mode frames made not_left is = is

-- what is allowed is changed only by leaving tokens out
pub allowed_same : (strict : Bool) (what made : Step) → leaves made ≡ false →
    allowed strict what ≡ made → what ≡ made
allowed_same strict (goes mode frames) made not_left is =
    picked (is_deferred mode) strict mode frames made not_left is
allowed_same strict bad made not_left is = is
allowed_same strict deep made not_left is = is
allowed_same strict (is_left_out text) made not_left is = is

pub taken_goes : (strict : Bool) (limit : ℕ) (mode : Mode) (frames : List Frame) (token : Token)
    (next : Mode) (below : List Frame) → taken strict limit mode frames token ≡ goes next below →
    step limit mode frames token ≡ goes next below
taken_goes strict limit mode frames token next below is =
    allowed_same strict (step limit mode frames token) (goes next below) refl is

-- one thing or the same
pub either_way : (test : Bool) (what : Step) → (if test then what else what) ≡ what
either_way true what = refl
either_way false what = refl

-- the machine that reads deferred sizes takes each step
pub allowed_all : (what : Step) → allowed false what ≡ what
allowed_all (goes mode frames) = either_way (is_deferred mode) (goes mode frames)
allowed_all bad = refl
allowed_all deep = refl
allowed_all (is_left_out text) = refl

pub taken_generous : (strict : Bool) (limit : ℕ) (mode : Mode) (frames : List Frame)
    (token : Token) (next : Mode) (below : List Frame) → taken strict limit mode frames token
    ≡ goes next below → taken false limit mode frames token ≡ goes next below
taken_generous strict limit mode frames token next below is =
    allowed_all (step limit mode frames token) ∙ taken_goes strict limit mode frames token next
    below is

pub allowed_goes : (strict : Bool) (mode : Mode) (frames : List Frame) → is_deferred mode ≡ false →
    allowed strict (goes mode frames) ≡ goes mode frames
allowed_goes strict mode frames plain =
    ap (λ test. if test then (if strict then is_left_out (codes "deferred-size") else goes mode
    frames) else goes mode frames) plain
