use Rattle.std.proofs.Common.{◌≡◌, ◌≤◌, ◌&&◌, refl, sym, subst, ℕ, length, ◌+◌, ◌*◌, Bool, true, false, take, drop, set, arith}
use Rattle.std.specs.Prelude.{not, if◌then◌else◌}
use Rattle.std.proofs.lemmas.List.{length-take}
use Rattle.tree_choice.specs.Counts.{AreCounts}
use Rattle.tree_choice.specs.Sorting.{IsSorted}
use Rattle.tree_choice.proofs.OpenBlocks.{same_sorted, spare_sorted, part_sorted, open_sorted, contributes}
use Rattle.tree_choice.proofs.sorting.add_block.Goals as goal

-- a block lies on the right, or else on the left, or else it is open
by_sides : (a b : Bool) (X : Type 0) → (a ≡ true → X) → (a ≡ false → b ≡ true → X) → (a ≡ false → b ≡ false → X) → X
by_sides true b X f g h = f refl
by_sides false true X f g h = g refl refl
by_sides false false X f g h = h refl refl

-- what one block adds is no more than its size
at_most : (b : Bool) (n m : ℕ) → m ≡ (if b then n else 0) → m ≤ n
at_most true n m e = omega arith
at_most false n m e = omega arith

pub overflow_add-result : goal.overflow_add-result
overflow_add-result c =
    let ps = c.args.pieces.now in
    let k = c.args.block in
    let others = c.requires.before.others in
    let first = length-take (16 * k) ps in
    let s : c.args.size ≡ length (take 16 (drop (16 * k) ps)) = c.requires.size in
    let block = length-take 16 (drop (16 * k) ps) in
    let more = at_most c.args.sides.right c.args.size c.added-more.result.right c.added-more.ensures.right in
    let few = c.requires.few in
    omega arith

pub overflow_add-result-2 : goal.overflow_add-result-2
overflow_add-result-2 c =
    let ps = c.args.pieces.now in
    let k = c.args.block in
    let others = c.requires.before.others in
    let first = length-take (16 * k) ps in
    let s : c.args.size ≡ length (take 16 (drop (16 * k) ps)) = c.requires.size in
    let block = length-take 16 (drop (16 * k) ps) in
    let more = at_most (not c.args.sides.right && c.args.sides.left) c.args.size c.added-more.result.left c.added-more.ensures.left in
    let few = c.requires.few in
    omega arith

pub returns-clause-is : goal.returns-clause-is
returns-clause-is c =
    let lines = c.args.by.now.lines.now in
    let p = c.args.by.now.piece.now in
    let ps = c.args.pieces.now in
    let k = c.args.block in
    let r = c.args.sorted.right in
    let l = c.args.sorted.left in
    let m = c.args.sorted.count in
    let noted = c.args.noted.now in
    let before = c.requires.before in
    let room = c.requires.room in
    let begins = c.requires.begins in
    let block = take 16 (drop (16 * k) ps) in
    let size = c.requires.size in
    let sides = c.args.sides in
    let more = c.added-more.result in
    let er = c.added-more.ensures.right in
    let el = c.added-more.ensures.left in
    let en = c.added-more.ensures.count in
    let spare = spare_sorted lines p ps (16 * k) r l m k noted before in
    by_sides sides.right sides.left (IsSorted lines p ps (16 * (k + 1)) (record { right = r + more.right; left = l + more.left; count = m + more.count }) (set noted m k))
    (λ a.
    let x : more.right ≡ c.args.size = rw a at er in
    let y : more.left ≡ 0 = rw a at el in
    let z : more.count ≡ 0 = rw a at en in
    same_sorted lines p ps (16 * k + 16) (16 * (k + 1)) (r + c.args.size) (r + more.right) (l + 0) (l + more.left) m (m + more.count) (set noted m k) (set noted m k)
    (part_sorted lines p ps (16 * k) 16 r l m c.args.size 0 (set noted m k) spare (contributes lines p block c.args.size 0 (subst (λ (n : ℕ). AreCounts lines p block (record { splits = 0; right = n; left = 0 })) (sym size) (c.requires.sides.right a))) (omega arith))
    (omega arith) (omega arith) (omega arith) (omega arith) refl)
    (λ a b.
    let x : more.right ≡ 0 = rw a at er in
    let y : more.left ≡ c.args.size = rw (a, b) at el in
    let z : more.count ≡ 0 = rw (a, b) at en in
    same_sorted lines p ps (16 * k + 16) (16 * (k + 1)) (r + 0) (r + more.right) (l + c.args.size) (l + more.left) m (m + more.count) (set noted m k) (set noted m k)
    (part_sorted lines p ps (16 * k) 16 r l m 0 c.args.size (set noted m k) spare (contributes lines p block 0 c.args.size (subst (λ (n : ℕ). AreCounts lines p block (record { splits = 0; right = 0; left = n })) (sym size) (c.requires.sides.left b))) (omega arith))
    (omega arith) (omega arith) (omega arith) (omega arith) refl)
    (λ a b.
    let x : more.right ≡ 0 = rw a at er in
    let y : more.left ≡ 0 = rw (a, b) at el in
    let z : more.count ≡ 1 = rw (a, b) at en in
    same_sorted lines p ps (16 * k + 16) (16 * (k + 1)) r (r + more.right) l (l + more.left) (m + 1) (m + more.count) (set noted m k) (set noted m k)
    (open_sorted lines p ps k r l m noted before (omega arith) (omega arith))
    (omega arith) (omega arith) (omega arith) (omega arith) refl)
