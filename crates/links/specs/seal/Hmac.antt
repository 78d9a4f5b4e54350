-- HMAC with SHA-256 (RFC 2104, section 2).
use Rattle.std.specs.Prelude.{ℕ, ◌-◌, List, ◌++◌, length, map, nat_lt, replicate, bit_xor, if◌then◌else◌}
use Rattle.sha2.specs.Sha256.{sha256}

-- bytes in a block of SHA-256
abbrev pub block_length : ℕ
block_length = 64

-- a key of more than a block is hashed first
abbrev pub hashed_if_long : List ℕ → List ℕ
hashed_if_long key = if nat_lt block_length (length key) then sha256 key else key

-- zeros up to a block
abbrev pub padded : List ℕ → List ℕ
padded key = key ++ replicate (block_length - length key) 0

-- the key as one block
abbrev pub key_block : List ℕ → List ℕ
key_block key = padded (hashed_if_long key)

-- each byte of a block, xored with this one
abbrev pub xored : ℕ → List ℕ → List ℕ
xored byte block = map (λ each. bit_xor each byte) block

-- the byte of the inner pad, and that of the outer one
abbrev pub inner_pad : ℕ
inner_pad = 54

abbrev pub outer_pad : ℕ
outer_pad = 92

-- the hash of the inner pad and the message
abbrev pub inner_hash : List ℕ → List ℕ → List ℕ
inner_hash key message = sha256 (xored inner_pad (key_block key) ++ message)

-- the 32 bytes by which whoever has the key knows the message
abbrev pub hmac : List ℕ → List ℕ → List ℕ
hmac key message = sha256 (xored outer_pad (key_block key) ++ inner_hash key message)
