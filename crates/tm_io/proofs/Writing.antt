-- Writing in pieces.
use Rattle.std.proofs.Common.{◌≡◌, ℕ, ◌+◌, ◌≤◌, List, ◌++◌, take, drop, Option, sym, ap, subst, ◌∙◌}
use Rattle.std.proofs.lemmas.List.{take-take}
use Rattle.std.proofs.Math.Seq.{take-add}
use Rattle.std.proofs.KnownBytes.{Appends-trans}
use Rattle.std.specs.Io.KnownBytes.{Appends}

-- the first n bytes, and then the first k of the next m
pub Appends-take : (old mid new : Option (List ℕ)) (n k m : ℕ) (bytes : List ℕ) → k ≤ m → Appends old mid (take n bytes) → Appends mid new (take k (take m (drop n bytes))) → Appends old new (take (n + k) bytes)
Appends-take old mid new n k m bytes within first second =
    let joined : take n bytes ++ take k (take m (drop n bytes)) ≡ take (n + k) bytes =
    ap (λ xs. take n bytes ++ xs) (take-take k m (drop n bytes) within) ∙ sym (take-add n k bytes) in
    subst (Appends old new) joined (Appends-trans old mid new _ _ first second)
