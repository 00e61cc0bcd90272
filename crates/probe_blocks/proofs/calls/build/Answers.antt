use Rattle.lines.proofs.Builds.{build_told}
use Rattle.probe_blocks.specs.Calls.{built_text, build_line}
use Rattle.probe_blocks.proofs.calls.build.Goals as goal

pub returns : goal.returns
unfolding build_line
returns c =
    let a = c.args in
    let b = c.line_of_build in
    build_told _ _ built_text a.line.now b.new.line a.body.now b.result
    b.ensures.short b.ensures.unknown b.ensures.built
    (λ body out old new n h l. rw (← l.reads, ← l.lends, ← l.before, ← l.after) l.met)
