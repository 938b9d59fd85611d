-- What a failed reading tells.
use Rattle.std.proofs.Common.{◌≡◌, Option, None, Result, Err, subst}
use Rattle.mdl_cli.specs.declared.terms.ReadError.{ReadError}
use Rattle.mdl_cli.specs.declared.terms.ReadError.TheVariants.{NotFirst}
use Rattle.mdl_cli.specs.inside.Gives.{Fails}

-- nothing was read where the error says so
pub none_from_not_first : {Y X : Type 0} (result : Result X ReadError) (error own : ReadError)
    (found : Option Y) → result ≡ Err error → error ≡ own → result ≡ Err NotFirst → Fails own found →
    found ≡ None
none_from_not_first result error own found failed same first fails =
    let e : own ≡ NotFirst = cc in
    subst (λ (error : ReadError). Fails error found) e fails
