-- HMAC (RFC 2104) with SHA-256 as its hash function.
use Rattle.std.specs.Prelude.{ℕ, ◌-◌, List, ◌++◌, length, map, replicate, nat_lt, if◌then◌else◌, bit_xor}
use Rattle.sha2.specs.Sha256.{sha256}

-- how many bytes a block of SHA-256 has: B of the RFC
abbrev pub block_size : ℕ
block_size = 64

-- the key that is used: one longer than a block is hashed first
abbrev pub used_key : List ℕ → List ℕ
used_key key = if nat_lt block_size (length key) then sha256 key else key

-- zeros appended up to a block
abbrev pub padded : List ℕ → List ℕ
padded bytes = bytes ++ replicate (block_size - length bytes) 0

-- each byte combined with that byte by exclusive or
abbrev pub xor_each : ℕ → List ℕ → List ℕ
xor_each pad bytes = map (λ b. bit_xor b pad) bytes

-- H(K XOR opad, H(K XOR ipad, text)), where K is the key with zeros up to a block
abbrev pub hmac : List ℕ → List ℕ → List ℕ
hmac key text =
    let k = padded (used_key key) in
    sha256 (xor_each 0x5C k ++ sha256 (xor_each 0x36 k ++ text))
