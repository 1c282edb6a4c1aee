-- What the call of a store leaves, or why it gives none.
use Rattle.std.proofs.Common.{◌≡◌, Result, Ok, Err, OnOk, IfErr}
use Rattle.c_store.specs.declared.value.Pointer.{Pointer}
use Rattle.c_store.specs.declared.value.Fault.{Fault}
use Rattle.c_store.specs.Cells.{Cells, IsWritten}
use Rattle.c_store.specs.Copies.{copy_of}
use Rattle.c_copies.specs.Laws.{IsCopied, MayNotCopy}
use Rattle.c_copies.proofs.Left.{copied}
use Rattle.c_copies.proofs.Faults.{copies_fail}

pub call_copies : (r : Result (Unit {0}) Fault) (c d : Cells) (p q : Pointer) → p.size ≡ q.size → IsWritten r d (copy_of c p q) → OnOk r (IsCopied c p q d)
call_copies (Ok done) c d p q size w = copied c d p q size w
call_copies (Err f) c d p q size w = tt

pub call_fails : (r : Result (Unit {0}) Fault) (c d : Cells) (p q : Pointer) → IsWritten r d (copy_of c p q) → IfErr r (λ f. MayNotCopy c p q f)
call_fails (Ok done) c d p q w = tt
call_fails (Err f) c d p q w = (copies_fail c p q f).0 w
