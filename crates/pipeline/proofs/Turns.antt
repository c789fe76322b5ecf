-- What a counting loop's proof needs of `upto`, under one name: the start, a turn, the end. Assumes nothing.
use Rattle.loops.specs.Upto.{upto_none, upto_turn, upto_all}

pub ruleset turns = (upto_none, upto_turn, upto_all)
