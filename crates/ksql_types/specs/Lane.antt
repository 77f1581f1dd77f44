-- The bytes of a key, and its partition.
use Rattle.std.specs.Prelude.{List, [], ◌∷◌, ◌++◌, ℕ, ◌+◌, ◌*◌, ◌%◌, ◌^◌, length, fold, if◌then◌else◌}
use Rattle.std.specs.Int.{w32, w64, to_be_bytes, cast_unsigned}
use Rattle.std.specs.List.{flat_map}
use Rattle.ksql_types.specs.declared.value.Value.{Value}
use Rattle.ksql_types.specs.declared.value.Value.TheVariants.{Null, Int, Big, Txt, Bool}

-- the bytes of a value: a text's own bytes, a number's big-endian two's complement in its width, one byte of a truth
-- value
abbrev pub value_bytes : Value → List ℕ
value_bytes Null = []
value_bytes (Int number) = to_be_bytes w32 (cast_unsigned w32 number)
value_bytes (Big number) = to_be_bytes w64 (cast_unsigned w64 number)
value_bytes (Txt bytes) = bytes
value_bytes (Bool truth) = (if truth then 1 else 0) ∷ []

-- bytes after their length, written as 4 bytes, big-endian
abbrev pub after_length : List ℕ → List ℕ
after_length bytes = to_be_bytes w32 (length bytes) ++ bytes

-- the bytes of a key: a single value's own, or for several values the bytes of each after their length
abbrev pub key_bytes : List Value → List ℕ
key_bytes [] = []
key_bytes (value ∷ []) = value_bytes value
key_bytes (first ∷ second ∷ more) = flat_map (λ value. after_length (value_bytes value)) (first ∷ second ∷ more)

-- the hash after one more byte
abbrev pub hash_step : ℕ → ℕ → ℕ
hash_step before byte = (31 * before + byte) % 2 ^ 32

-- the hash of bytes, 0 if there are none
unfoldable pub hash : List ℕ → ℕ
hash bytes = fold hash_step 0 bytes

-- the partition of a key among n; for no key, that of its home
abbrev pub lane : List Value → ℕ → ℕ → ℕ
lane [] n home = home % n
lane (first ∷ more) n home = hash (key_bytes (first ∷ more)) % n
