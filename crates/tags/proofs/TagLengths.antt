-- How many digits a tag has.
use Rattle.std.proofs.Common.{◌≡◌, ℕ, ◌*◌, List, length, ap, ◌∙◌}
use Rattle.hex.proofs.HexLemmas.{length-encode_with}
use Rattle.hex.specs.Hex.{lower_digits}
use Rattle.sha2.proofs.Facts256.{length-sha256}
use Rattle.tags.specs.Hmac.{hmac}
use Rattle.tags.specs.Tags.{hex_text, tag_digits}

pub tag_length : (key text : List ℕ) → length (hex_text (hmac key text)) ≡ tag_digits
tag_length key text = length-encode_with lower_digits (hmac key text) ∙ ap (λ (n : ℕ). 2 * n) (length-sha256 _)
