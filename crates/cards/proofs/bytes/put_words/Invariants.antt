use Rattle.std.proofs.Common.{◌≡◌, map, take}
use Rattle.std.specs.Int.{w32, from_le_bytes}
use Rattle.cards.proofs.bytes.put_words.Given as goal

abbrev pub invariant-loop-chunk : goal.invariant-loop-chunk
invariant-loop-chunk l = l.words.items ≡ map (λ c. from_le_bytes w32 c) (take l.chunk-index l.chunks)
