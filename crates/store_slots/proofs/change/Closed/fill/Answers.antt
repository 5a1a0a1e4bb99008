use Rattle.std.proofs.Common.{◌+◌, ℕ, ◌∙◌, ap, arith}
use Rattle.store_disk.specs.declared.area.Area.{Area}
use Rattle.store_slots.specs.Bodies.{content_bytes}
use Rattle.store_slots.specs.Handles.{body_in}
use Rattle.store_slots.proofs.Filling.{first_moments, both_moments, filled, fill_ready}
use Rattle.store_slots.proofs.change.Closed.fill.Goals as goal

pub returns-in_err-write_at-clause-any_moment : goal.returns-in_err-write_at-clause-any_moment
returns-in_err-write_at-clause-any_moment g c =
    let s = c.args.self.slots in
    let image = c.args.image.now in
    first_moments s c.args.journal (body_in image) c.requires.fits (omega (arith, c.requires.next, image.number)) image.count c.requires.apart
    g.D.Disk c.args.disk.now c.write_at.new.self c.write_at.new.self _ c.bytes.result.now
    (ap (λ (a : Area). a.base + 1) c.other.ensures) (c.bytes.ensures ∙ ap (λ (n : ℕ). content_bytes n (body_in image)) c.requires.next)
    (λ file left. (c.requires.ready file left).closed) (λ file left. g.met.D.Disk.only_now c.args.disk.now file left) c.write_at.ensures.images c.write_at.ensures.time

pub returns-in_err-write_through-clause-any_moment : goal.returns-in_err-write_through-clause-any_moment
returns-in_err-write_through-clause-any_moment g c =
    let s = c.args.self.slots in
    let image = c.args.image.now in
    both_moments s c.args.journal (body_in image) c.requires.fits (omega (arith, c.requires.next, image.number)) image.count c.requires.apart
    g.D.Disk c.args.disk.now c.write_at.new.self c.write_through.new.disk _ c.bytes.result.now
    (ap (λ (a : Area). a.base + 1) c.other.ensures) (c.bytes.ensures ∙ ap (λ (n : ℕ). content_bytes n (body_in image)) c.requires.next)
    (λ file left. (c.requires.ready file left).closed) (λ file left. g.met.D.Disk.only_now c.args.disk.now file left) c.write_at.ensures.images c.write_at.ensures.time
    c.write_through.ensures.any_moment

pub returns-clause-any_moment : goal.returns-clause-any_moment
returns-clause-any_moment g c =
    let s = c.args.self.slots in
    let image = c.args.image.now in
    both_moments s c.args.journal (body_in image) c.requires.fits (omega (arith, c.requires.next, image.number)) image.count c.requires.apart
    g.D.Disk c.args.disk.now c.write_at.new.self c.write_through.new.disk _ c.bytes.result.now
    (ap (λ (a : Area). a.base + 1) c.other.ensures) (c.bytes.ensures ∙ ap (λ (n : ℕ). content_bytes n (body_in image)) c.requires.next)
    (λ file left. (c.requires.ready file left).closed) (λ file left. g.met.D.Disk.only_now c.args.disk.now file left) c.write_at.ensures.images c.write_at.ensures.time
    c.write_through.ensures.any_moment

pub returns-clause-filled : goal.returns-clause-filled
returns-clause-filled g c =
    let s = c.args.self.slots in
    let image = c.args.image.now in
    filled s c.args.journal (body_in image) c.requires.fits (omega (arith, c.requires.next, image.number)) image.count c.requires.apart
    g.D.Disk c.args.disk.now c.write_at.new.self c.write_through.new.disk _ c.bytes.result.now
    (ap (λ (a : Area). a.base + 1) c.other.ensures) (c.bytes.ensures ∙ ap (λ (n : ℕ). content_bytes n (body_in image)) c.requires.next)
    (λ file left. (c.requires.ready file left).closed) (λ file left. g.met.D.Disk.only_now c.args.disk.now file left) c.write_at.ensures.images c.write_at.ensures.time
    (λ file is. g.met.D.Disk.reads_an_image c.args.disk.now file is) c.in_ok-write_at.ensures.written c.in_ok-write_through.ensures.written c.in_ok-write_through.ensures.durable

pub returns-clause-ready : goal.returns-clause-ready
returns-clause-ready g c =
    fill_ready c.args.self.slots (body_in c.args.image.now) c.args.journal (g.D.Disk.may_leave c.args.disk.now)
    (g.D.Disk.may_leave c.write_through.new.disk) c.requires.ready (returns-clause-filled g c)
