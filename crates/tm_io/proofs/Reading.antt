-- Reading into a part of a room.
use Rattle.std.proofs.Common.{◌≡◌, ℕ, ◌+◌, ◌-◌, ◌<◌, ◌≤◌, Option, subst, List, ◌++◌, length, take, drop, Result, Ok, Err, IfOk, sym, ap, ◌∙◌, arith, take-append-drop}
use Rattle.std.proofs.lemmas.List.{drop-append-le, drop-drop, take-append-le, take-take}
use Rattle.std.specs.Io.KnownBytes.{Consumes, ReadConsumes}
use Rattle.tm_io.specs.Sources.{KeepsRest}

-- behind what came into the first `most` bytes of a room, the whole room is as it was
pub KeepsRest-part : {E : Type 0} (r : Result ℕ E) (most : ℕ) (room part : List ℕ) → length part ≡ length (take most room) → IfOk r (λ n. n ≤ length part) → KeepsRest r (take most room) part → KeepsRest r room (part ++ drop most room)
KeepsRest-part (Ok n) most room part same within kept =
    drop-append-le n part (drop most room) within ∙ ap (λ xs. xs ++ drop most room) kept ∙ sym (drop-append-le n (take most room) (drop most room) (omega arith)) ∙ ap (drop n) (take-append-drop most room)
KeepsRest-part (Err e) most room part same within kept =
    ap (λ xs. xs ++ drop most room) kept ∙ take-append-drop most room

-- the next n bytes, and those behind them
pub taken_at : (bytes front : List ℕ) (at n : ℕ) → front ≡ take n (take (length bytes - at) (drop at bytes)) → n ≤ length bytes - at → drop at bytes ≡ front ++ drop (at + n) bytes
taken_at bytes front at n same within =
    sym (take-append-drop n (drop at bytes)) ∙ (λ i. sym (take-take n (length bytes - at) (drop at bytes) within) i ++ drop-drop n at bytes i) ∙ ap (λ xs. xs ++ drop (at + n) bytes) (sym same)

-- what came into a part of a room came into the room; it has a place where the room has one
pub ReadConsumes-part : {E : Type 0} (old new : Option (List ℕ)) (r : Result ℕ E) (part rest : List ℕ) → IfOk r (λ n. n ≤ length part) → (0 < length (part ++ rest) → 0 < length part) → ReadConsumes old new r part → ReadConsumes old new r (part ++ rest)
ReadConsumes-part old new (Ok n) part rest within place taken =
    (subst (Consumes old new) (sym (take-append-le n part rest within)) taken.0, λ none some. taken.1 none (place some))
ReadConsumes-part old new (Err e) part rest within place taken = taken
