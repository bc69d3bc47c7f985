-- pieces pushed one behind the other
use Rattle.std.proofs.Common.{◌≡◌, List, ◌++◌, append_assoc}

pub onto : {A : Type 0} → (front middle back : List A) →
    front ++ middle ++ back ≡ front ++ (middle ++ back)
onto front middle back = append_assoc front middle back
