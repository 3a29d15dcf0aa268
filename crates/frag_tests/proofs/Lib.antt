mod ShowsLaws
