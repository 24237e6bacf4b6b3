-- The tags of nodes and of data cells, under key bytes 32 to 47. Assumes nothing.
use Rattle.std.specs.Prelude.{ℕ, List, [], ◌∷◌, ◌++◌}
use Rattle.words.specs.Bytes.{bytes_of, part}
use Rattle.siphash.specs.SipHash.{sip_hash}

-- what a node's tag covers: content, level (8 bytes), index (8 bytes)
unfoldable pub node_input : List ℕ → ℕ → ℕ → List ℕ
node_input content level index = content ++ bytes_of 8 (level ∷ index ∷ [])

unfoldable pub node_tag : List ℕ → List ℕ → ℕ → ℕ → ℕ
node_tag keys content level index = sip_hash (part keys 32 16) (node_input content level index)

-- what a data cell's tag covers: content, line, major, minor (8 bytes each)
unfoldable pub data_input : List ℕ → ℕ → ℕ → ℕ → List ℕ
data_input content line major minor = content ++ bytes_of 8 (line ∷ major ∷ minor ∷ [])

-- the hash that a data cell's tag is taken from
unfoldable pub data_hash : List ℕ → List ℕ → ℕ → ℕ → ℕ → ℕ
data_hash keys content line major minor = sip_hash (part keys 32 16) (data_input content line major minor)
