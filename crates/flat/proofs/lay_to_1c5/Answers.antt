-- One group behind another. Assumes nothing.
use mathlib.Core.Path.{refl}
use mathlib.Core.List.{List, ◌++◌}
use Prim.Native.Nat.{ℕ}
use lib.ListN.{take}
use Rattle.flat.proofs.Laid.{first, more}
use Rattle.settings.specs.Flat.{blending_words, tests_words, buffers_words, light_port_words}
use Rattle.flat.proofs.lay_to_1c5.Goals as goal

pub returns : goal.returns
returns c =
    let a = c.args in
    let old = a.fields.now in
    let w0 : List ℕ = blending_words a.framebuffer.blending in
    let to175 = c.lay.new.fields in
    let front = take 160 old in
    let m0 = c.blending_words-blending in
    let at175 = first w0 old m0.result to175 160 175 c.lay.ensures m0.ensures refl in
    let w1 : List ℕ = tests_words a.framebuffer.tests in
    let to193 = c.lay-2.new.fields in
    let m1 = c.tests_words-tests in
    let at193 = more front w0 w1 to175 m1.result to193 175 193 at175 c.lay-2.ensures m1.ensures refl in
    let w2 : List ℕ = buffers_words a.framebuffer.buffers in
    let to202 = c.lay-3.new.fields in
    let m2 = c.buffers_words-buffers in
    let at202 = more front (w0 ++ w1) w2 to193 m2.result to202 193 202 at193 c.lay-3.ensures m2.ensures refl in
    let w3 : List ℕ = light_port_words a.port in
    let m3 = c.light_port_words-last in
    more front ((w0 ++ w1) ++ w2) w3 to202 m3.result c.lay-4.new.fields 202 204 at202 c.lay-4.ensures m3.ensures refl
