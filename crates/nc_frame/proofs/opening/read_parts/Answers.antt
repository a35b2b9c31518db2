use Rattle.std.proofs.Common.{arith, sym, ◌∙◌}
use Rattle.nc_bytes.specs.Bytes.{AreBytes}
use Rattle.nc_bytes.proofs.Numbers.{bytes_8-same}
use Rattle.nc_frame.proofs.Shapes.{shape_of, shape_here, sealed_of}
use Rattle.nc_frame.proofs.opening.read_parts.Goals as goal

pub returns-then-bytes-lt48-clause-none : goal.returns-then-bytes-lt48-clause-none
returns-then-bytes-lt48-clause-none c = λ w.
    let s = shape_of _ w.cloud w.width w.key w.payload w.is_sealed.is_frame in
    absurd (omega (arith, s.total))

pub returns-then-not-is_same-clause-none : goal.returns-then-not-is_same-clause-none
returns-then-not-is_same-clause-none c = λ w.
    let s = shape_of _ w.cloud w.width w.key w.payload w.is_sealed.is_frame in
    absurd (cc (c.is_same.ensures.1 (c.part_of.ensures ∙ s.magic), c.if-not-is_same.true))

pub returns-then-bytes-key_len-clause-none : goal.returns-then-bytes-key_len-clause-none
returns-then-bytes-key_len-clause-none c = λ w.
    let s = shape_here _ _ c.u16_at-key_len.type_inv c.u16_at-key_len.ensures w in
    absurd (omega (arith, s.total))

pub returns-then-u64_at-len-clause-none : goal.returns-then-u64_at-len-clause-none
returns-then-u64_at-len-clause-none c = λ w.
    let s = shape_here _ _ c.u16_at-key_len.type_inv c.u16_at-key_len.ensures w in
    c.if-u64_at-len.true (bytes_8-same _ _ c.u64_at.type_inv (omega arith) (c.u64_at.ensures ∙ sym s.size))

pub returns-then-not-is_digested-clause-none : goal.returns-then-not-is_digested-clause-none
returns-then-not-is_digested-clause-none c = λ w.
    let s = shape_here _ _ c.u16_at-key_len.type_inv c.u16_at-key_len.ensures w in
    absurd (cc (c.is_digested.ensures.1 s.digest, c.if-not-is_digested.true))

pub returns-clause-some : goal.returns-clause-some
returns-clause-some c =
    let are : AreBytes c.args.bytes.now = λ i. omega (arith, c.type_inv.bytes i) in
    let magic = c.is_same.ensures.0 c.if-not-is_same.false in
    let digest = c.is_digested.ensures.0 c.if-not-is_digested.false in
    let size = c.u64_at.ensures in
    rw (c.part_of-2.ensures, c.part_of-3.ensures) (sealed_of _ _ _ are c.u16_at-key_len.type_inv (omega arith) (record {
      total = omega arith;
      magic = sym c.part_of.ensures ∙ magic;
      key_len = c.u16_at-key_len.ensures;
      size = rw (← c.if-u64_at-len.false) size;
      digest = digest;
    }))
