-- Words are one request, or none.
use Rattle.std.specs.Prelude.{◌≡◌, ◌⊎◌, ℕ, List}
use Rattle.command_words.specs.declared.request.Request.{Request}
use Rattle.command_words.specs.Requests.{IsRequest, NoRequest}

pub record OneRequest (words : List (List ℕ)) : Type 0 where
  pub stands : ((request : Request) × IsRequest words request) ⊎ NoRequest words
  pub one : (a b : Request) → IsRequest words a → IsRequest words b → a ≡ b
