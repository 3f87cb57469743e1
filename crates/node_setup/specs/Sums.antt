-- The sum of a scheme.
use Rattle.std.specs.Prelude.{ℕ, List}
use Rattle.hex.specs.Hex.{encode_lower}
use Rattle.sha2.specs.Sha256.{sha256}
use Rattle.protocol.specs.Scheme.{Scheme}
use Rattle.scheme.specs.Written.{scheme_text}

-- two hexadecimal digits for each byte of the digest of its canonical text
abbrev pub sum_text : Scheme → List ℕ
sum_text scheme = encode_lower (sha256 (scheme_text scheme))
