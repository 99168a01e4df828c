use Rattle.std.proofs.Common.{◌+◌, length, arith}
use Rattle.lrc_exact_judge.proofs.Steps.{step-acquire, step-arrive, step-other, step-read, step-release, step-write}
use Rattle.lrc_exact_judge.proofs.memory.Memory.step.Goals as goal

pub returns-in_ok-read-in-Read-clause-memory : goal.returns-in_ok-read-in-Read-clause-memory
returns-in_ok-read-in-Read-clause-memory c =
    let run = c.args.acts.now in
    let n = length run in
    let memory = c.requires.memory in
    step-read run c.args.act c.args.self.now c.read.new.self memory c.requires.node c.requires.waits c.in_ok-read-in-Read.ensures.alike (n + 1) n n
    (omega arith) (omega arith) (omega arith) c.in-Read.word _ c.in-Read.is
    (c.in_ok-read-in-Read.ensures.kept n n n memory.having (omega arith) (omega arith) memory.kept)

pub returns-in_ok-write-in-Write-clause-memory : goal.returns-in_ok-write-in-Write-clause-memory
returns-in_ok-write-in-Write-clause-memory c =
    let run = c.args.acts.now in
    let n = length run in
    let memory = c.requires.memory in
    step-write run c.args.act c.args.self.now c.write.new.self memory c.requires.node c.requires.waits c.in_ok-write-in-Write.ensures.alike (n + 1) n n
    (omega arith) (omega arith) (omega arith) c.in-Write.word c.in-Write.value c.in-Write.is
    (c.in_ok-write-in-Write.ensures.kept n n n memory.having (omega arith) (omega arith) memory.kept)

pub returns-in_ok-acquire-in-Acquire-clause-memory : goal.returns-in_ok-acquire-in-Acquire-clause-memory
returns-in_ok-acquire-in-Acquire-clause-memory c =
    let run = c.args.acts.now in
    let n = length run in
    let memory = c.requires.memory in
    step-acquire run c.args.act c.args.self.now c.acquire.new.self memory c.requires.node c.requires.waits c.in_ok-acquire-in-Acquire.ensures.alike n (n + 1) (n + 1)
    (omega arith) (omega arith) (omega arith) c.in-Acquire.lock c.in-Acquire.is
    (c.in_ok-acquire-in-Acquire.ensures.kept n n n memory.having (omega arith) (omega arith) memory.kept)

pub returns-in_ok-release-in-Release-clause-memory : goal.returns-in_ok-release-in-Release-clause-memory
returns-in_ok-release-in-Release-clause-memory c =
    let run = c.args.acts.now in
    let n = length run in
    let memory = c.requires.memory in
    step-release run c.args.act c.args.self.now c.release.new.self memory c.requires.node c.requires.waits c.in_ok-release-in-Release.ensures.alike n n (n + 1)
    (omega arith) (omega arith) (omega arith) c.in-Release.lock c.in-Release.is
    (c.in_ok-release-in-Release.ensures.kept n n n memory.having memory.kept)

pub returns-in_ok-close-in-Arrive-clause-memory : goal.returns-in_ok-close-in-Arrive-clause-memory
returns-in_ok-close-in-Arrive-clause-memory c =
    let run = c.args.acts.now in
    let n = length run in
    let memory = c.requires.memory in
    step-arrive run c.args.act c.args.self.now c.close.new.self memory c.requires.node c.requires.waits c.in_ok-close-in-Arrive.ensures.alike n n (n + 1)
    (omega arith) (omega arith) (omega arith) c.in-Arrive.is
    (c.in_ok-close-in-Arrive.ensures.kept n n n memory.having memory.kept)

pub returns-in_default-clause-memory : goal.returns-in_default-clause-memory
returns-in_default-clause-memory c =
    step-other c.args.acts.now c.args.act c.args.self.now c.requires.memory c.requires.node c.requires.waits
    c.in_default.not-Read c.in_default.not-Write c.in_default.not-Acquire c.in_default.not-Release c.in_default.not-Arrive c.in_default.not-Depart
