-- Service identifiers that are no modem's (CM-SP-MULPIv3.1, MAP message).
use Rattle.std.specs.Prelude.{ℕ}

-- the SID that addresses no modem
abbrev pub nobody : ℕ
nobody = 0

-- the SID that addresses every modem
abbrev pub everybody : ℕ
everybody = 16383
