use Rattle.std.proofs.Common.{ap, rules, ◌∙◌, ◌++◌, FitsSigned}
use Rattle.std.specs.Int.{w16}
use Rattle.std.proofs.lemmas.Int.{to_z-of_z}
use Rattle.lump_records.specs.Fields.{signed, unsigned}
use Rattle.lump_records.specs.Records.{node_at, node_record}
use Rattle.lump_records.proofs.FieldBytes.{whole, plain}
use Rattle.lump_records.proofs.RecordBytes.{node_at-record}
use Rattle.lump_records.proofs.codec.node_bytes.Goals as goal

pub returns-clause-record : goal.returns-clause-record
returns-clause-record c =
    let n = c.args.node.now in
    let f0 : FitsSigned w16 n.x = search rules in
    let f1 : FitsSigned w16 n.y = search rules in
    let f2 : FitsSigned w16 n.dx = search rules in
    let f3 : FitsSigned w16 n.dy = search rules in
    let f4 : FitsSigned w16 n.right_box.top = search rules in
    let f5 : FitsSigned w16 n.right_box.bottom = search rules in
    let f6 : FitsSigned w16 n.right_box.left = search rules in
    let f7 : FitsSigned w16 n.right_box.right = search rules in
    let f8 : FitsSigned w16 n.left_box.top = search rules in
    let f9 : FitsSigned w16 n.left_box.bottom = search rules in
    let f10 : FitsSigned w16 n.left_box.left = search rules in
    let f11 : FitsSigned w16 n.left_box.right = search rules in
    whole 28 c.put_unsigned-2.new.bytes (search rules) ∙ c.put_unsigned-2.ensures.front
    ∙ ap (λ xs. xs ++ unsigned n.left) (c.put_unsigned.ensures.front
    ∙ ap (λ xs. xs ++ unsigned n.right) (c.put_signed-12.ensures.front
    ∙ ap (λ xs. xs ++ signed (plain n.left_box.right)) (c.put_signed-11.ensures.front
    ∙ ap (λ xs. xs ++ signed (plain n.left_box.left)) (c.put_signed-10.ensures.front
    ∙ ap (λ xs. xs ++ signed (plain n.left_box.bottom)) (c.put_signed-9.ensures.front
    ∙ ap (λ xs. xs ++ signed (plain n.left_box.top)) (c.put_signed-8.ensures.front
    ∙ ap (λ xs. xs ++ signed (plain n.right_box.right)) (c.put_signed-7.ensures.front
    ∙ ap (λ xs. xs ++ signed (plain n.right_box.left)) (c.put_signed-6.ensures.front
    ∙ ap (λ xs. xs ++ signed (plain n.right_box.bottom)) (c.put_signed-5.ensures.front
    ∙ ap (λ xs. xs ++ signed (plain n.right_box.top)) (c.put_signed-4.ensures.front
    ∙ ap (λ xs. xs ++ signed (plain n.dy)) (c.put_signed-3.ensures.front
    ∙ ap (λ xs. xs ++ signed (plain n.dx)) (c.put_signed-2.ensures.front
    ∙ ap (λ xs. xs ++ signed (plain n.y)) (c.put_signed.ensures.front)))))))))))))
    ∙ (λ i. node_record (record {
      x = to_z-of_z w16 n.x f0 i;
      y = to_z-of_z w16 n.y f1 i;
      dx = to_z-of_z w16 n.dx f2 i;
      dy = to_z-of_z w16 n.dy f3 i;
      right = n.right;
      left = n.left;
      right_box =
          record {
            top = to_z-of_z w16 n.right_box.top f4 i;
            bottom = to_z-of_z w16 n.right_box.bottom f5 i;
            left =
                to_z-of_z w16 n.right_box.left f6 i;
            right = to_z-of_z w16 n.right_box.right f7 i;
          };
      left_box =
          record {
            top = to_z-of_z w16 n.left_box.top f8 i;
            bottom = to_z-of_z w16 n.left_box.bottom f9 i;
            left =
                to_z-of_z w16 n.left_box.left f10 i;
            right = to_z-of_z w16 n.left_box.right f11 i;
          };
    }))

pub returns-clause-inverse : goal.returns-clause-inverse
returns-clause-inverse c =
    ap node_at (returns-clause-record c) ∙ node_at-record c.args.node.now (search rules) (search rules) (search rules)
    (search rules) (search rules) (search rules) (search rules) (search rules) (search rules) (search rules)
    (search rules) (search rules) c.put_unsigned.ensures.range c.put_unsigned-2.ensures.range
