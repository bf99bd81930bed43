-- Each limit of a book by its value, so that a mistyped number cannot change a contract unnoticed. Both are this project's own choice.
use Rattle.std.specs.Prelude.{◌≡◌}
use Rattle.oberon_claims.specs.declared.claims.TheConstants.{MAX_JOBS, MAX_WORKERS}

pub record HasBookLimits : Type 0 where
  pub jobs : MAX_JOBS ≡ 4096
  pub workers : MAX_WORKERS ≡ 64
